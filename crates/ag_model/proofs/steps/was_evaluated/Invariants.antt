-- No step so far evaluates the equation.
use Rattle.std.proofs.Common.{◌≡◌, ℕ, ◌<◌, Some, slice_get}
use Rattle.ag_model.specs.declared.plan.PlanStep.TheVariants.{Evaluate}
use Rattle.ag_model.proofs.steps.was_evaluated.Given as goal

abbrev pub invariant-loop-j : goal.invariant-loop-j
invariant-loop-j l = (j : ℕ) → j < l.j → slice_get l.steps j ≡ Some (Evaluate l.e) → ⊥
