-- In the words so far the set has the same positions that take either byte.
use Rattle.std.proofs.Common.{◌≡◌, ℕ, ◌<◌, slice_index, bit_and}
use Rattle.rex_dfa.proofs.positions.Positions.takes_same.Given as goal

abbrev pub invariant-loop-w : goal.invariant-loop-w
invariant-loop-w l = (k : ℕ) → k < l.w
    → bit_and (slice_index l.from k) (slice_index l.first k) ≡ bit_and (slice_index l.from k) (slice_index l.second k)
