use Rattle.std.proofs.Common.{◌≤◌, ◌+◌, ◌*◌, length}
use Rattle.lalr_look.specs.within.Rows.{rows_of}
use Rattle.lalr_look.proofs.Flowing.{Turning}
use Rattle.lalr_look.proofs.Holes.{holes}
use Rattle.lalr_look.proofs.flow.spread.Given as goal

abbrev pub invariant-loop-n : goal.invariant-loop-n
invariant-loop-n l = Turning (rows_of l.edges.items) l.fn.sets l.sets l.work.items (length (rows_of l.edges.items)) 0

abbrev pub invariant-loop-i : goal.invariant-loop-i
invariant-loop-i l = Turning (rows_of l.edges.items) l.fn.sets l.sets l.work.items l.n l.i
    × (2 * holes l.sets + length l.work.items ≤ 2 * holes l.initial.sets + length l.initial.work.items)

abbrev pub decreases-loop-n : goal.decreases-loop-n
decreases-loop-n l = 2 * holes l.sets + length l.work.items
