-- Each refusal in its order, and the table.
use Rattle.std.proofs.Common.{length, subst, subst₂}
use Rattle.cfg_model.specs.LrTables.{NoneCyclic, NoneHiddenLeft}
use Rattle.cfg_model.specs.Searches.{IsLeast, HiddenLeft}
use Rattle.cfg_model.specs.Sets.{AllProductive, Reachable}
use Rattle.lalr_look.specs.Promise.{sets_of}
use Rattle.lalr_tables.specs.within.Rows.{AreActions}
use Rattle.lalr_tables.proofs.Exact.{reported, no_conflict}
use Rattle.lalr_tables.proofs.Outcome.{all_productive, none_cyclic, none_hidden, too_many, passed_on}
use Rattle.lalr_tables.proofs.making.build.Goals as goal

pub returns-in-Some-3-clause-refused : goal.returns-in-Some-3-clause-refused
returns-in-Some-3-clause-refused c =
    let g = c.args.g.now in
    let all : AllProductive g = all_productive g c.in_ok-n.field-0 c.in_default.is c.in_ok-n.ensures in
    let cyclic : NoneCyclic g = none_cyclic g c.in_ok-n-2.field-0 c.in_default-2.is c.in_ok-n-2.ensures in
    (all, cyclic, subst (λ found. IsLeast (λ n. Reachable g n × HiddenLeft g n) found) c.in-Some-3.is c.in_ok-n-3.ensures)

pub returns-in_err-cores-clause-refused : goal.returns-in_err-cores-clause-refused
returns-in_err-cores-clause-refused c =
    let g = c.args.g.now in
    let all : AllProductive g = all_productive g c.in_ok-n.field-0 c.in_default.is c.in_ok-n.ensures in
    let cyclic : NoneCyclic g = none_cyclic g c.in_ok-n-2.field-0 c.in_default-2.is c.in_ok-n-2.ensures in
    let hidden : NoneHiddenLeft g = none_hidden g c.in_ok-n-3.field-0 c.in_default-3.is c.in_ok-n-3.ensures in
    passed_on _ _ _ c.from_residual-in_err-cores.ensures.1 (too_many g _ all cyclic hidden (c.in_err-cores.ensures).fault)

pub returns-in-Some-found-clause-refused : goal.returns-in-Some-found-clause-refused
returns-in-Some-found-clause-refused c =
    let g = c.args.g.now in
    let cores = c.in_ok-cores.cores in
    let all : AllProductive g = all_productive g c.in_ok-n.field-0 c.in_default.is c.in_ok-n.ensures in
    let cyclic : NoneCyclic g = none_cyclic g c.in_ok-n-2.field-0 c.in_default-2.is c.in_ok-n-2.ensures in
    let hidden : NoneHiddenLeft g = none_hidden g c.in_ok-n-3.field-0 c.in_default-3.is c.in_ok-n-3.ensures in
    let filled = subst₂ (λ l f. AreActions g cores (sets_of l) (length cores.items) c.in_ok-made.made.cells.items f)
    c.deref.ensures.value c.in-Some-found.is c.in_ok-made.ensures in
    let looks = sets_of c.in_ok-looks.looks.items in (
      all,
      cyclic,
      hidden,
      (c.in_ok-cores.ensures).no_more,
      reported g c.requires cores (c.in_ok-cores.ensures).cores looks c.in_ok-looks.ensures c.in-Some-found.clash filled.best,
    )

pub finish-requires-clause-accepted : goal.finish-requires-clause-accepted
finish-requires-clause-accepted c =
    let g = c.args.g.now in
    let cores = c.in_ok-cores.cores in
    let filled = subst₂ (λ l f. AreActions g cores (sets_of l) (length cores.items) c.in_ok-made.made.cells.items f)
    c.deref.ensures.value c.in_default-found.is c.in_ok-made.ensures in
    let looks = sets_of c.in_ok-looks.looks.items in
    record {
      grammar = c.requires;
      productive = all_productive g c.in_ok-n.field-0 c.in_default.is c.in_ok-n.ensures;
      not_cyclic = none_cyclic g c.in_ok-n-2.field-0 c.in_default-2.is c.in_ok-n-2.ensures;
      not_hidden_left = none_hidden g c.in_ok-n-3.field-0 c.in_default-3.is c.in_ok-n-3.ensures;
      no_conflict = no_conflict g c.requires cores (c.in_ok-cores.ensures).cores looks c.in_ok-looks.ensures filled.best;
    }
