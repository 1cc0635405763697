-- The end of the right side has given its edges.
use Rattle.std.proofs.Common.{◌≤◌, drop, length}
use Rattle.cfg_model.specs.within.Gather.{Gathers}
use Rattle.cfg_model.proofs.Middling.{IsStanding}
use Rattle.cfg_model.proofs.looping.add_middle.Given as goal

abbrev pub invariant-loop-i : goal.invariant-loop-i
invariant-loop-i l = record { fits : l.i ≤ length l.right; edges : Gathers l.fn.edges.items l.edges.items (IsStanding l.null l.left l.others (drop l.i l.right)) }

abbrev pub decreases-loop-i : goal.decreases-loop-i
decreases-loop-i l = l.i
