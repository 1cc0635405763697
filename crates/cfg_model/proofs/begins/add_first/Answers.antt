-- What the list begins with by the rows is FIRST.
use Rattle.std.proofs.Common.{◌≡◌, ap}
use Rattle.cfg_model.specs.Cfg.{Cfg}
use Rattle.cfg_model.proofs.FirstLoops.{below_symbols}
use Rattle.cfg_model.proofs.Trailing.{begins_are_first, passes_are_nullable}
use Rattle.cfg_model.proofs.begins.add_first.Goals as goal

pub add_begins-requires-clause-rows : goal.add_begins-requires-clause-rows
add_begins-requires-clause-rows c =
    let count : c.g.inside.nonterminals ≡ c.args.g.now.nonterminals = ap (λ (g : Cfg). g.nonterminals) c.g.view_is in
    let width : c.g.inside.terminals ≡ c.args.g.now.terminals = ap (λ (g : Cfg). g.terminals) c.g.view_is in
    rw (count, width) c.requires.firsts.are

pub add_begins-requires-clause-list : goal.add_begins-requires-clause-list
add_begins-requires-clause-list c =
    let count : c.g.inside.nonterminals ≡ c.args.g.now.nonterminals = ap (λ (g : Cfg). g.nonterminals) c.g.view_is in
    let width : c.g.inside.terminals ≡ c.args.g.now.terminals = ap (λ (g : Cfg). g.terminals) c.g.view_is in
    rw (count, width) (below_symbols c.args.g.now c.args.list.now c.requires.list)

pub returns-clause-first : goal.returns-clause-first
returns-clause-first c =
    begins_are_first c.args.g.now c.args.null.now c.requires.grammar c.requires.null c.requires.productive c.args.firsts.now c.requires.firsts
    c.args.list.now c.args.to.now c.add_begins.new.to c.requires.list c.add_begins.ensures.begins

pub returns-clause-vanish : goal.returns-clause-vanish
returns-clause-vanish c =
    passes_are_nullable c.args.g.now c.args.null.now c.requires.null c.args.list.now c.add_begins.result c.add_begins.ensures.vanish
