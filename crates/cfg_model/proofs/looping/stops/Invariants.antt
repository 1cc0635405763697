-- So many of the end of the list stop.
use Rattle.std.proofs.Common.{◌+◌, ◌≤◌, drop, length}
use Rattle.cfg_model.specs.within.Middles.{Stops}
use Rattle.cfg_model.proofs.looping.stops.Given as goal

abbrev pub invariant-loop-i : goal.invariant-loop-i
invariant-loop-i l = record { fits : l.i + l.count ≤ length l.list; stops : Stops l.null (drop l.i l.list) l.count }

abbrev pub decreases-loop-i : goal.decreases-loop-i
decreases-loop-i l = l.i
