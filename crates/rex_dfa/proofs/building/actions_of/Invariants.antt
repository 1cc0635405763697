use Rattle.std.proofs.Common.{map}
use Rattle.rex_model.specs.RuleMeaning.{rule_of}
use Rattle.rex_dfa.specs.within.Building.{AreActions}
use Rattle.rex_dfa.proofs.building.actions_of.Given as goal

abbrev pub invariant-loop-rule : goal.invariant-loop-rule
invariant-loop-rule l = AreActions (map rule_of l.rules) l.rule-index l.actions.items
