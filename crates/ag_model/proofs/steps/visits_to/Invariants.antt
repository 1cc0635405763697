-- So many of the first steps visit the child.
use Rattle.std.proofs.Common.{◌≡◌, ◌≤◌}
use Rattle.ag_model.specs.Plans.{counted, is_visit}
use Rattle.ag_model.proofs.steps.visits_to.Given as goal

abbrev pub invariant-loop-j : goal.invariant-loop-j
invariant-loop-j l = (l.count ≡ counted (is_visit l.c) l.steps l.j) × (l.count ≤ l.j)
