use Rattle.std.proofs.Common.{◌≡◌, ℕ, ◌+◌, length}
use Rattle.lalr_look.specs.within.Rows.{rows_of, row_at}
use Rattle.lalr_look.specs.within.Kernel.{Moves}
use Rattle.lalr_look.proofs.making.moved.Given as goal

abbrev pub invariant-loop-item : goal.invariant-loop-item
invariant-loop-item l =
    (length l.rows.items ≡ l.g.terminals + l.g.nonterminals)
    × ((i : ℕ) → Moves l.g l.items i l.item-index (row_at (rows_of l.rows.items) i))
