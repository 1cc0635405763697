-- Steps towards a closure and an order. Only contracts within the crate cite them.
use Rattle.std.specs.Prelude.{◌≡◌, ℕ, ◌⊎◌}
use Rattle.ck_base.specs.BitSet.{BitSet, Has}
use Rattle.ck_base.specs.Pairs.{Pairs, Relates}

-- the new set has the old numbers, and those of the row where it had k
pub record JoinsIf (old new : BitSet) (k : ℕ) (row : BitSet) : Type 0 where
  pub size : new.size ≡ old.size
  pub only : (b : ℕ) → Has new b → Has old b ⊎ (Has old k × Has row b)
  pub kept : (b : ℕ) → Has old b → Has new b
  pub more : (b : ℕ) → Has old k → Has row b → Has new b

-- the new relation is the old one with the steps through k
pub record GoesThrough (old new : Pairs) (k : ℕ) : Type 0 where
  pub size : new.size ≡ old.size
  pub only : (a b : ℕ) → Relates new a b → Relates old a b ⊎ (Relates old a k × Relates old k b)
  pub kept : (a b : ℕ) → Relates old a b → Relates new a b
  pub more : (a b : ℕ) → Relates old a k → Relates old k b → Relates new a b

-- a number outside the set is related to b
pub record IsBlocked (pairs : Pairs) (placed : BitSet) (b : ℕ) : Type 0 where
  pub by : ℕ
  pub outside : Has placed by → ⊥
  pub pair : Relates pairs by b

-- the new set is the old one with the numbers that a is related to, where a is outside `placed`
pub record BlocksBy (pairs : Pairs) (placed old new : BitSet) (a : ℕ) : Type 0 where
  pub size : new.size ≡ old.size
  pub only : (b : ℕ) → Has new b → Has old b ⊎ ((Has placed a → ⊥) × Relates pairs a b)
  pub kept : (b : ℕ) → Has old b → Has new b
  pub more : (b : ℕ) → (Has placed a → ⊥) → Relates pairs a b → Has new b
