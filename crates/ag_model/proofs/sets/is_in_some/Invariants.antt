-- No set so far has the attribute.
use Rattle.std.proofs.Common.{ℕ, ◌<◌, []}
use Rattle.std.specs.Prelude.{slice_index_or, Contains}
use Rattle.ag_model.specs.Plans.{lists}
use Rattle.ag_model.proofs.sets.is_in_some.Given as goal

abbrev pub invariant-loop-k : goal.invariant-loop-k
invariant-loop-k l = (j : ℕ) → j < l.k → Contains (slice_index_or (lists l.sets) j []) l.a → ⊥
