-- The words before the place are joined, and the others are as they were.
use Rattle.std.proofs.Common.{◌≡◌, ◌<◌, ◌≤◌, ◌↔◌, ℕ, IsTrue, bit_or, slice_index}
use Rattle.ck_base.specs.Words.{Differ}
use Rattle.ck_base.proofs.bits.join_words.Given as goal

abbrev pub invariant-loop-i : goal.invariant-loop-i
invariant-loop-i l = record {
  joined : (k : ℕ) → k < l.i → slice_index l.mine k ≡ bit_or (slice_index l.fn.mine k) (slice_index l.theirs k);
  rest : (k : ℕ) → l.i ≤ k → slice_index l.mine k ≡ slice_index l.fn.mine k;
  changed : IsTrue l.changed ↔ Differ l.fn.mine l.mine;
}
