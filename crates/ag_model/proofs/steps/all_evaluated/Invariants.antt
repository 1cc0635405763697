-- Each attribute so far was evaluated.
use Rattle.std.proofs.Common.{ℕ, ◌<◌, map, get_or}
use Rattle.ag_model.specs.Attribution.{equation_of}
use Rattle.ag_model.specs.Plans.{EvaluatedBefore}
use Rattle.ag_model.specs.within.StepFits.{place_in}
use Rattle.ag_model.proofs.steps.all_evaluated.Given as goal

abbrev pub invariant-loop-a : goal.invariant-loop-a
invariant-loop-a l = (k : ℕ) → k < l.a-index → EvaluatedBefore (map equation_of l.equations) l.steps l.i (place_in l.child (get_or l.part k 0))
