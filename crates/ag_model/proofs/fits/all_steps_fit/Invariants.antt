-- The steps of each type so far fit.
use Rattle.std.proofs.Common.{ℕ, ◌<◌}
use Rattle.ag_model.specs.Attribution.{grammar_of}
use Rattle.ag_model.specs.within.TypePlans.{FitsAt}
use Rattle.ag_model.proofs.fits.all_steps_fit.Given as goal

abbrev pub invariant-loop-t : goal.invariant-loop-t
invariant-loop-t l = (t : ℕ) → t < l.t → FitsAt (grammar_of l.types l.a) l.plan t
