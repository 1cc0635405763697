-- No step so far evaluates an equation of the place.
use Rattle.std.proofs.Common.{ℕ, ◌<◌, map}
use Rattle.ag_model.specs.Attribution.{equation_of}
use Rattle.ag_model.specs.Plans.{Evaluates}
use Rattle.ag_model.proofs.steps.evaluated_before.Given as goal

abbrev pub invariant-loop-j : goal.invariant-loop-j
invariant-loop-j l = (j : ℕ) → j < l.j → Evaluates (map equation_of l.equations) l.steps j l.place → ⊥
