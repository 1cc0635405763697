-- The least number with a property.
use Rattle.std.specs.Prelude.{ℕ, ◌≤◌}

-- n is the least number with P
pub record Least (P : ℕ → Type 0) (n : ℕ) : Type 0 where
  pub is : P n
  pub least : (m : ℕ) → P m → n ≤ m
