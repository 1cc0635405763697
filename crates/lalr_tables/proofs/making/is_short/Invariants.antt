-- The rules before this one are short.
use Rattle.std.proofs.Common.{◌≡◌, ℕ, ◌<◌, ◌^◌, length, slice_get, Some}
use Rattle.cfg_model.specs.Cfg.{Rule}
use Rattle.lalr_tables.proofs.making.is_short.Given as goal

abbrev pub invariant-loop-i : goal.invariant-loop-i
invariant-loop-i l = (j : ℕ) (one : Rule) → j < l.i → slice_get l.g.rules j ≡ Some one → length one.right < 2 ^ 32
