-- Each refusal in its order, and the table.
use Rattle.std.proofs.Common.{◌≡◌, ◌+◌, ap, ◌∙◌}
use Rattle.cfg_model.specs.Cfg.{Cfg}
use Rattle.cfg_model.specs.LlTables.{NoneLeftRecursive}
use Rattle.cfg_model.specs.Sets.{AllProductive}
use Rattle.ell_tables.specs.within.Fill.{cell_at}
use Rattle.ell_tables.proofs.Exact.{reported, no_conflict}
use Rattle.ell_tables.proofs.Outcome.{all_productive, none_recursive, predicted}
use Rattle.ell_tables.proofs.making.build.Goals as goal

pub returns-in-Some-found-clause-refused : goal.returns-in-Some-found-clause-refused
returns-in-Some-found-clause-refused c =
    let g = c.args.g.now in
    let width : c.g.inside.terminals ≡ g.terminals = ap (λ (g : Cfg). g.terminals) c.g.view_is in
    let rules_are : c.deref.result.now ≡ g.rules = c.deref.ensures.value ∙ ap (λ (g : Cfg). g.rules) c.g.view_is in
    let filled = rw (rules_are, c.deref-2.ensures.value, width, c.in-Some-found.is) at c.in_ok-made.ensures.1 in
    let all : AllProductive g = all_productive g c.in_ok-n.field-0 c.in_default.is c.in_ok-n.ensures in
    let recursive : NoneLeftRecursive g = none_recursive g c.in_ok-n-2.field-0 c.in_default-2.is c.in_ok-n-2.ensures in
    (all, recursive, reported g c.in_ok-sets.sets.items c.in_ok-sets.ensures.each (cell_at (g.terminals + 1) c.in_ok-made.made.cells.items) c.in-Some-found.clash filled)

pub finish-requires-clause-accepted : goal.finish-requires-clause-accepted
finish-requires-clause-accepted c =
    let g = c.args.g.now in
    let width : c.g.inside.terminals ≡ g.terminals = ap (λ (g : Cfg). g.terminals) c.g.view_is in
    let rules_are : c.deref.result.now ≡ g.rules = c.deref.ensures.value ∙ ap (λ (g : Cfg). g.rules) c.g.view_is in
    let filled = rw (rules_are, c.deref-2.ensures.value, width, c.in_default-found.is) at c.in_ok-made.ensures.1 in
    let all : AllProductive g = all_productive g c.in_ok-n.field-0 c.in_default.is c.in_ok-n.ensures in
    let recursive : NoneLeftRecursive g = none_recursive g c.in_ok-n-2.field-0 c.in_default-2.is c.in_ok-n-2.ensures in
    record {
      grammar = c.requires;
      productive = all;
      not_left_recursive = recursive;
      no_conflict = no_conflict g c.in_ok-sets.sets.items c.in_ok-sets.ensures.each (cell_at (g.terminals + 1) c.in_ok-made.made.cells.items) filled;
    }

pub finish-requires-clause-predicts : goal.finish-requires-clause-predicts
finish-requires-clause-predicts c =
    let g = c.args.g.now in
    let width : c.g.inside.terminals ≡ g.terminals = ap (λ (g : Cfg). g.terminals) c.g.view_is in
    let rules_are : c.deref.result.now ≡ g.rules = c.deref.ensures.value ∙ ap (λ (g : Cfg). g.rules) c.g.view_is in
    let filled = rw (rules_are, c.deref-2.ensures.value, width, c.in_default-found.is) at c.in_ok-made.ensures.1 in
    predicted g c.in_ok-sets.sets.items c.in_ok-made.made.cells.items c.in_ok-sets.ensures filled
