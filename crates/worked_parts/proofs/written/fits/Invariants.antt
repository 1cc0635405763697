use Rattle.std.proofs.Common.{ℕ, ◌<◌, slice_index_or}
use Rattle.cfg_model.specs.Cfg.{IsSymbol}
use Rattle.cfg_model.specs.declared.symbol.Sym.{Sym}
use Rattle.worked_parts.proofs.written.fits.Given as goal

-- the symbols so far are the grammar's
abbrev pub invariant-loop-symbol : goal.invariant-loop-symbol
invariant-loop-symbol l = (k : ℕ) (d : Sym) → k < l.symbol-index → IsSymbol l.g (slice_index_or l.list k d)
