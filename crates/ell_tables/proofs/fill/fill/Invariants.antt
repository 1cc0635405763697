-- What was seen stands in the cells.
use Rattle.std.proofs.Common.{◌≡◌, ◌*◌, length}
use Rattle.ell_tables.specs.within.Fill.{Filled, Seen, cell_at}
use Rattle.ell_tables.proofs.fill.fill.Given as goal

abbrev pub invariant-loop-k : goal.invariant-loop-k
invariant-loop-k l = record {
  count : length l.cells.items ≡ l.count * l.width;
  filled : Filled (Seen l.rules l.sets l.k 0) (cell_at l.width l.cells.items) l.found;
}

abbrev pub invariant-loop-t : goal.invariant-loop-t
invariant-loop-t l = record {
  count : length l.cells.items ≡ l.count * l.width;
  filled : Filled (Seen l.rules l.sets l.k l.t) (cell_at l.width l.cells.items) l.found;
}
