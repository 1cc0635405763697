-- What a set of the numbers below a size says.
use Rattle.std.specs.Prelude.{◌≡◌, ℕ, ◌<◌, ◌/◌, ◌%◌, ◌⊎◌, List, slice_index, IsBitSet}

-- a set of numbers below `size`: number i is bit i % 64 of word i / 64
pub record BitSet : Type 0 where
  pub size : ℕ
  pub words : List ℕ

-- the number is in the set
abbrev pub Has : BitSet → ℕ → Type 0
Has set i = (i < set.size) × IsBitSet (slice_index set.words (i / 64)) (i % 64)

-- no number is in the set
abbrev pub IsEmpty : BitSet → Type 0
IsEmpty set = (i : ℕ) → Has set i → ⊥

-- the new set is the old one with the numbers of which P holds
pub record Adds (old new : BitSet) (P : ℕ → Type 0) : Type 0 where
  pub size : new.size ≡ old.size
  pub only : (i : ℕ) → Has new i → Has old i ⊎ P i
  pub kept : (i : ℕ) → Has old i → Has new i
  pub more : (i : ℕ) → P i → Has new i

-- some number is in the new set alone
abbrev pub Grew : BitSet → BitSet → Type 0
Grew old new = (i : ℕ) × Has new i × (Has old i → ⊥)
