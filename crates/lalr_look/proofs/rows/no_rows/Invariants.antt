use Rattle.std.proofs.Common.{◌≡◌, ℕ, length, []}
use Rattle.lalr_look.specs.within.Rows.{rows_of, row_at}
use Rattle.lalr_look.proofs.rows.no_rows.Given as goal

abbrev pub invariant-loop : goal.invariant-loop
invariant-loop l = (length l.rows.items ≡ l.counter) × ((k : ℕ) → row_at (rows_of l.rows.items) k ≡ [])
