-- Each set so far fits.
use Rattle.std.proofs.Common.{ℕ, ◌<◌}
use Rattle.ag_model.specs.Plans.{lists}
use Rattle.ag_model.specs.Attribution.{kinds_in}
use Rattle.ag_model.specs.within.FitsByPlace.{PartFits}
use Rattle.ag_model.proofs.sets.parts_fit.Given as goal

abbrev pub invariant-loop-k : goal.invariant-loop-k
invariant-loop-k l = (k : ℕ) → k < l.k → PartFits (kinds_in l.attributes) (lists l.sets) k
