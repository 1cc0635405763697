-- A set of the most positions so far has room for the rules so far.
use Rattle.std.proofs.Common.{◌-◌, ◌^◌, ◌<◌, take, map}
use Rattle.rex_model.specs.Positions.{HasRoomFor}
use Rattle.rex_model.specs.RuleMeaning.{rule_of}
use Rattle.rex_model.proofs.position_sets.most_positions.Given as goal

abbrev pub invariant-loop-rule : goal.invariant-loop-rule
invariant-loop-rule l = l.most < 2 ^ 32 - 1 → HasRoomFor l.most (map rule_of (take l.rule-index l.rules))
