-- The moves before this one stand in their cells.
use Rattle.std.proofs.Common.{◌≡◌, length, slice_index}
use Rattle.cfg_model.specs.declared.symbol.Sym.TheVariants.{N}
use Rattle.lalr_tables.specs.within.Rows.{AreGotos}
use Rattle.lalr_tables.proofs.Moving.{AmongFirst}
use Rattle.lalr_tables.proofs.rows.goto_row.Given as goal

abbrev pub invariant-loop-i : goal.invariant-loop-i
invariant-loop-i l =
    (length l.cells.items ≡ l.g.nonterminals) × AreGotos l.g.nonterminals (λ n. AmongFirst l.moves l.i (N n)) (slice_index l.cells.items)
