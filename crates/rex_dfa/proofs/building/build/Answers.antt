-- The rules as a list, and each cause.
use Rattle.std.proofs.Common.{arith, length, map}
use Rattle.std.proofs.lemmas.List.{length-map}
use Rattle.rex_model.specs.RuleMeaning.{rule_of, rules_of}
use Rattle.rex_dfa.specs.Faults.{nullable, memory}
use Rattle.rex_dfa.specs.within.Building.{AreTooMany}
use Rattle.rex_dfa.proofs.MainTable.{few_rules}
use Rattle.rex_dfa.proofs.TablesOfRules.{fault_of}
use Rattle.rex_dfa.proofs.building.build.Goals as goal

pub first_nullable-requires : goal.first_nullable-requires
first_nullable-requires c =
    let rules = c.args.rules.now.rules.items in
    rw c.as_slice-list.ensures.value (omega (arith, few_rules (map rule_of rules), length-map rules rule_of, c.requires.few))

pub returns-in-Some-clause-err : goal.returns-in-Some-clause-err
returns-in-Some-clause-err c = nullable c.in-Some.i (rw c.as_slice-list.ensures.value at c.in-Some.ensures)

pub returns-in-Err-clause-err : goal.returns-in-Err-clause-err
returns-in-Err-clause-err c = memory

pub returns-in-Ok-Done-clause-bodies : goal.returns-in-Ok-Done-clause-bodies
returns-in-Ok-Done-clause-bodies c = rw c.as_slice-list.ensures.value at c.in_default.ensures

pub returns-in-Ok-TooMany-clause-err : goal.returns-in-Ok-TooMany-clause-err
returns-in-Ok-TooMany-clause-err c =
    let too_many : AreTooMany (map rule_of c.args.rules.now.rules.items) (length c.args.rules.now.states) c.in-Ok-TooMany.kind
    = rw (← c.as_slice-list.ensures.value, ← c.len.ensures) (rw c.in-Ok-TooMany.field-0-is at c.in-Ok-TooMany.ensures) in
    fault_of (rules_of c.args.rules.now) c.in-Ok-TooMany.kind (rw c.as_slice-list.ensures.value at c.in_default.ensures) too_many
