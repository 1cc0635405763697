-- One number is the least one with a property; and where none is, no number has the property.
use Rattle.std.proofs.Common.{◌≡◌, ℕ, zero, suc, ◌<◌, ◌≤◌, ◌⊎◌, inl, inr, arith}
use Rattle.spec_text.specs.Least.{Least}
use Rattle.spec_text.proofs.Lists.{order}

pub one_least : (P : ℕ → Type 0) (n m : ℕ) → Least P n → Least P m → n ≡ m
one_least P n m f g = omega (arith, f.least m g.is, g.least n f.is)

-- where no number is the least one with P, none has it
pub no_least : (P : ℕ → Type 0) → ((n : ℕ) → Least P n → ⊥) → (bound n : ℕ) → n < bound → P n → ⊥
no_least P none zero n less is = omega (arith, less)
no_least P none (suc bound) n less is = by (no_least P none bound)
  where
    by : ((m : ℕ) → m < bound → P m → ⊥) → ⊥
    by lower = none n (record { is = is; least = λ m has. at_least m has (order m n) })
      where
        at_least : (m : ℕ) → P m → (m < n) ⊎ ((n < m) ⊎ (m ≡ n)) → n ≤ m
        at_least m has (inl below) = absurd (lower m (omega (arith, below, less)) has)
        at_least m has (inr (inl above)) = omega (arith, above)
        at_least m has (inr (inr same)) = omega (arith, same)
