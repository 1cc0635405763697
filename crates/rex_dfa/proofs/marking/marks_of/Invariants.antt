use Rattle.std.proofs.Common.{map, drop}
use Rattle.rex_model.specs.RuleMeaning.{rule_of}
use Rattle.rex_dfa.proofs.MarksOfRules.{Marking}
use Rattle.rex_dfa.proofs.marking.marks_of.Given as goal

abbrev pub invariant-loop-rule : goal.invariant-loop-rule
invariant-loop-rule l = Marking (map rule_of l.rules) (map rule_of (drop l.rule-index l.rules)) l.at l.marks.items
