-- The moves before this one stand in their cells.
use Rattle.std.proofs.Common.{◌≡◌, ◌+◌, length, slice_index}
use Rattle.cfg_model.specs.declared.symbol.Sym.TheVariants.{T}
use Rattle.lalr_tables.specs.within.Rows.{AreCells, NoRule}
use Rattle.lalr_tables.proofs.Moving.{AmongFirst}
use Rattle.lalr_tables.proofs.rows.shift_row.Given as goal

abbrev pub invariant-loop-i : goal.invariant-loop-i
invariant-loop-i l =
    (length l.cells.items ≡ l.g.terminals + 1) × AreCells (l.g.terminals + 1) (λ t. AmongFirst l.moves l.i (T t)) NoRule (slice_index l.cells.items)
