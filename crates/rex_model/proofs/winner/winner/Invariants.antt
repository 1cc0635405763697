-- The best of the rules before this one; the sets keep their size.
use Rattle.std.proofs.Common.{◌≡◌, map}
use Rattle.rex_model.specs.RuleMeaning.{rule_of}
use Rattle.rex_model.proofs.BestOfRules.{IsBestBefore}
use Rattle.rex_model.proofs.winner.winner.Given as goal

abbrev pub invariant-loop-i : goal.invariant-loop-i
invariant-loop-i l = (l.sets ≡ l.initial.sets) × IsBestBefore (map rule_of l.rules) l.state l.rest l.i l.best
