use Rattle.std.proofs.Common.{◌≡◌, ℕ, length, ◌≤◌, ◌+◌}
use Rattle.lalr_look.specs.within.Rows.{rows_of, row_at}
use Rattle.lalr_look.specs.within.Kernel.{Rows, Moves}
use Rattle.lalr_look.proofs.making.moves_of.Given as goal

abbrev pub invariant-loop-i : goal.invariant-loop-i
invariant-loop-i l =
    Rows l.g l.items l.initial.kernels l.i l.kernels l.row.items
    × (length l.kernels ≤ length l.initial.kernels + l.i)
    × (length l.moved_items.items ≡ l.g.terminals + l.g.nonterminals)
    × ((k : ℕ) → l.i ≤ k → Moves l.g l.items k (length l.items) (row_at (rows_of l.moved_items.items) k))
