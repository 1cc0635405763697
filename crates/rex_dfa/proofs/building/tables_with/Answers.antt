-- The tables, or of what there are too many states.
use Rattle.std.proofs.Common.{map}
use Rattle.std.proofs.lemmas.List.{length-map}
use Rattle.rex_model.specs.RuleMeaning.{rule_of}
use Rattle.rex_dfa.specs.within.Building.{scanner, split}
use Rattle.rex_dfa.proofs.TablesOfRules.{tables_are}
use Rattle.rex_dfa.proofs.building.tables_with.Goals as goal

pub returns-in_ok-actions-in-Some-2 : goal.returns-in_ok-actions-in-Some-2
returns-in_ok-actions-in-Some-2 c = tables_are (map rule_of c.args.rules.now) c.args.states _ c.requires.next c.requires.bodies
    (rw c.in-Some.is at c.in_ok-main.ensures) (rw c.in-Some-2.is at c.in_ok-splits-in-Some.ensures)
    (rw (length-map c.args.rules.now rule_of) c.in_ok-actions-in-Some-2.ensures)

pub returns-in-None-2 : goal.returns-in-None-2
returns-in-None-2 c =
    let main = rw c.in-Some.is at c.in_ok-main.ensures in
    split main.few (rw c.in-None-2.is at c.in_ok-splits-in-Some.ensures)

pub returns-in-None : goal.returns-in-None
returns-in-None c = scanner (rw c.in-None.is at c.in_ok-main.ensures)
