-- The set has the rows before the number that have it.
use Rattle.std.proofs.Common.{◌≡◌, ◌↔◌, ◌<◌, ℕ}
use Rattle.ck_base.specs.BitSet.{Has}
use Rattle.cfg_model.specs.Rows.{In}
use Rattle.cfg_model.proofs.reach.column.Given as goal

abbrev pub invariant-loop-n : goal.invariant-loop-n
invariant-loop-n l = record { size : l.set.size ≡ l.count; has : (m : ℕ) → Has l.set m ↔ ((m < l.n) × In l.rows m l.t) }
