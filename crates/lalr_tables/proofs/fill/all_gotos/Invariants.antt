-- The rows of the cores before this one are filled.
use Rattle.lalr_tables.specs.within.Rows.{AreGotoRows}
use Rattle.lalr_tables.proofs.fill.all_gotos.Given as goal

abbrev pub invariant-loop-core : goal.invariant-loop-core
invariant-loop-core l = AreGotoRows l.g l.cores l.core l.cells.items
