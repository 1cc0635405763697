use Rattle.std.proofs.Common.{map}
use Rattle.rex_model.specs.RuleMeaning.{rule_of}
use Rattle.rex_dfa.specs.within.Building.{NoneNullable}
use Rattle.rex_dfa.proofs.building.first_nullable.Given as goal

abbrev pub invariant-loop-i : goal.invariant-loop-i
invariant-loop-i l = NoneNullable (map rule_of l.rules) l.i
