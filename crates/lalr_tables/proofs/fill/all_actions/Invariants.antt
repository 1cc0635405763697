-- The rows of the cores before this one are filled.
use Rattle.lalr_look.specs.Promise.{sets_of}
use Rattle.lalr_tables.specs.within.Rows.{AreActions}
use Rattle.lalr_tables.proofs.fill.all_actions.Given as goal

abbrev pub invariant-loop-core : goal.invariant-loop-core
invariant-loop-core l = AreActions l.g l.cores (sets_of l.looks) l.core l.cells.items l.found
