-- Each equation so far is evaluated.
use Rattle.std.proofs.Common.{◌≡◌, ℕ, ◌<◌, Some}
use Rattle.std.specs.Prelude.{slice_get}
use Rattle.ag_model.specs.declared.plan.PlanStep.TheVariants.{Evaluate}
use Rattle.ag_model.specs.within.TypePlans.{own_steps}
use Rattle.ag_model.proofs.fits.are_all_evaluated.Given as goal

abbrev pub invariant-loop-e : goal.invariant-loop-e
invariant-loop-e l = (e : ℕ) → e < l.e → (i : ℕ) × (slice_get (own_steps l.p) i ≡ Some (Evaluate e))
