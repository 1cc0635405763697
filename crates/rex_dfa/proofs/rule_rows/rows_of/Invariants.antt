-- Only the rules that are left may be missing.
use Rattle.std.proofs.Common.{map, drop}
use Rattle.rex_model.specs.RuleMeaning.{rule_of}
use Rattle.rex_dfa.proofs.WalkOfRules.{WalkingRules}
use Rattle.rex_dfa.proofs.rule_rows.rows_of.Given as goal

abbrev pub invariant-loop-rule : goal.invariant-loop-rule
invariant-loop-rule l = WalkingRules (map rule_of l.rules) (map rule_of (drop l.rule-index l.rules)) l.at l.size l.states l.rows l.firsts.items
