-- The rules so far.
use Rattle.std.proofs.Common.{map}
use Rattle.rex_model.specs.RuleMeaning.{rule_of}
use Rattle.section_frame.specs.Passes.{judged_by}
use Rattle.front_spec.specs.Seen.{saying}
use Rattle.front_spec.proofs.MadeRules.{RulesSoFar}
use Rattle.front_spec.proofs.rules.scan_rules.Given as goal

abbrev pub invariant-loop-item : goal.invariant-loop-item
invariant-loop-item l = RulesSoFar l.states l.tokens (map (judged_by saying) l.list) l.item-index (map rule_of l.rules.items)
