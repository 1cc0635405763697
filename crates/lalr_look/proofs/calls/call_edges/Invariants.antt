use Rattle.std.proofs.Common.{◌≡◌, ℕ, length, ◌↔◌}
use Rattle.lalr_look.specs.within.Flow.{Edge}
use Rattle.lalr_look.specs.within.Rows.{rows_of}
use Rattle.lalr_look.specs.within.Kernel.{CallsFirst}
use Rattle.lalr_look.proofs.calls.call_edges.Given as goal

abbrev pub invariant-loop-i : goal.invariant-loop-i
invariant-loop-i l = (length l.edges.items ≡ l.g.nonterminals) × ((k n : ℕ) → Edge (rows_of l.edges.items) k n ↔ CallsFirst l.g l.i k n)
