-- The terminals before this one are gone through.
use Rattle.std.proofs.Common.{◌≡◌, length}
use Rattle.lalr_tables.specs.within.Rows.{PutsAll}
use Rattle.lalr_tables.proofs.rows.put_rule.Given as goal

abbrev pub invariant-loop-t : goal.invariant-loop-t
invariant-loop-t l =
    (length l.cells.items ≡ length l.fn.cells.items) × PutsAll l.set l.rule l.fn.cells.items l.fn.found l.t l.cells.items l.best
