use Rattle.std.proofs.Common.{map, ◌≡◌, ◌+◌, drop}
use Rattle.rex_model.specs.RuleMeaning.{rule_of}
use Rattle.rex_model.specs.Positions.{position_count}
use Rattle.rex_model.specs.Sets.{marked_rules}
use Rattle.rex_dfa.proofs.main_table.size_of.Given as goal

abbrev pub invariant-loop-rule : goal.invariant-loop-rule
invariant-loop-rule l = l.size + position_count (marked_rules (map rule_of (drop l.rule-index l.rules))) ≡ position_count (marked_rules (map rule_of l.rules))
