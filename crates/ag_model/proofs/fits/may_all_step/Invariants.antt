-- Each step so far may stand there.
use Rattle.std.proofs.Common.{◌≡◌, ℕ, ◌<◌, Some}
use Rattle.std.specs.Prelude.{slice_get}
use Rattle.ag_model.specs.declared.plan.PlanStep.{PlanStep}
use Rattle.ag_model.specs.within.TypePlans.{MayStep, own_steps}
use Rattle.ag_model.proofs.fits.may_all_step.Given as goal

abbrev pub invariant-loop-i : goal.invariant-loop-i
invariant-loop-i l = (i : ℕ) → i < l.i → (st : PlanStep) → slice_get (own_steps l.p) i ≡ Some st → MayStep l.p i st
