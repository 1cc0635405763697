-- The items before this one are gone through.
use Rattle.lalr_tables.specs.within.Rows.{IsRow}
use Rattle.lalr_tables.proofs.rows.action_row.Given as goal

abbrev pub invariant-loop-i : goal.invariant-loop-i
invariant-loop-i l = IsRow l.g l.items l.moves l.looks l.i l.cells.items l.found
