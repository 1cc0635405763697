-- So many of the first steps end a visit.
use Rattle.std.proofs.Common.{◌≡◌, ◌≤◌}
use Rattle.ag_model.specs.Plans.{counted, is_leave}
use Rattle.ag_model.proofs.steps.leaves.Given as goal

abbrev pub invariant-loop-j : goal.invariant-loop-j
invariant-loop-j l = (l.count ≡ counted is_leave l.steps l.j) × (l.count ≤ l.j)
