-- No visit so far takes the attribute in.
use Rattle.std.proofs.Common.{ℕ, ◌<◌}
use Rattle.ag_model.specs.Plans.{TakesIn, lists}
use Rattle.ag_model.proofs.steps.was_taken_in.Given as goal

abbrev pub invariant-loop-v : goal.invariant-loop-v
invariant-loop-v l = (w : ℕ) → w < l.v → TakesIn (lists l.sets) w l.a → ⊥
