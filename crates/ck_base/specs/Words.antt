-- The words of a set: how many there are, and what it is to join them.
use Rattle.std.specs.Prelude.{◌≡◌, ◌≢◌, ℕ, ◌+◌, ◌<◌, ◌/◌, ◌%◌, List, length, slice_index, bit_or, IsBitSet}

-- the words are as many as the size asks for, and have no bit past it
pub record IsFit (size : ℕ) (words : List ℕ) : Type 0 where
  pub count : length words ≡ (size + 63) / 64
  pub inside : (i : ℕ) → IsBitSet (slice_index words (i / 64)) (i % 64) → i < size

-- each word is the or of the two words in its place
pub record AreJoined (mine theirs joined : List ℕ) : Type 0 where
  pub length_kept : length joined ≡ length mine
  pub each : (k : ℕ) → slice_index joined k ≡ bit_or (slice_index mine k) (slice_index theirs k)

-- the words differ in some place
abbrev pub Differ : List ℕ → List ℕ → Type 0
Differ old new = (k : ℕ) × (slice_index new k ≢ slice_index old k)
