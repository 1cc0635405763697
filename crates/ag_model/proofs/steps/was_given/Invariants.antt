-- No visit so far gives the attribute.
use Rattle.std.proofs.Common.{◌≡◌, ℕ, ◌<◌, Some}
use Rattle.std.specs.Prelude.{slice_get}
use Rattle.ag_model.specs.Plans.{Gives, lists}
use Rattle.ag_model.specs.declared.plan.PlanStep.TheVariants.{Visit}
use Rattle.ag_model.proofs.steps.was_given.Given as goal

abbrev pub invariant-loop-j : goal.invariant-loop-j
invariant-loop-j l = (j v : ℕ) → j < l.j → slice_get l.steps j ≡ Some (Visit l.c v) → Gives (lists l.sets) v l.a → ⊥
