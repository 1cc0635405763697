-- Each attribute so far is in some set.
use Rattle.std.proofs.Common.{ℕ, ◌<◌, length}
use Rattle.ag_model.specs.Plans.{lists}
use Rattle.ag_model.specs.within.FitsByPlace.{IsInSome}
use Rattle.ag_model.proofs.sets.all_placed.Given as goal

abbrev pub invariant-loop-a : goal.invariant-loop-a
invariant-loop-a l = (a : ℕ) → a < l.a → IsInSome (lists l.sets) (length (lists l.sets)) a
