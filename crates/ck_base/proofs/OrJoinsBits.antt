-- An or of two words has the bits of both, and where it differs from the first, the second has a bit that the first lacks.
use Rattle.std.proofs.Common.{◌≡◌, ℕ, ◌-◌, ◌*◌, ◌^◌, ◌<◌, max, min, ◌≢◌, ◌⊎◌, inl, inr, sym, ◌∙◌, arith, w64, bit_and, bit_or}
use Rattle.std.specs.Prelude.{IsBitSet}
use Rattle.std.specs.Int.{bit_at, bit_not, trailing_zeros}
use Rattle.std.proofs.lemmas.Nat.{pow_pos, and_le_l, or_lt}
use Rattle.std.proofs.lemmas.Nat.Bits.{and_pow, bit_at-lt, bit_at_or, bit_at_and, bit_at_not, bit_at-trailing_zeros, bit_at-pow_same, bit_at-pow_other, bit_at-zero, same_from_bits_below}

-- a bit is set where it is 1
pub one_of_bit : (n k : ℕ) → IsBitSet n k → bit_at n k ≡ 1
one_of_bit n k set =
    let below = bit_at-lt n k in
    let nonzero : bit_at n k ≢ 0 = λ none. set (rw (and_pow n k, none) (omega arith)) in
    omega arith

pub bit_of_one : (n k : ℕ) → bit_at n k ≡ 1 → IsBitSet n k
bit_of_one n k one none =
    let same : 1 * 2 ^ k ≡ 0 = rw (and_pow n k, one) at none in
    omega (arith, pow_pos k)

-- an or has the bits of its parts, and no others
pub bit_of_or : (a b k : ℕ) → IsBitSet (bit_or a b) k → IsBitSet a k ⊎ IsBitSet b k
bit_of_or a b k set =
    let one : max (bit_at a k) (bit_at b k) ≡ 1 = sym (bit_at_or a b k) ∙ one_of_bit (bit_or a b) k set in
    let cases : (bit_at a k ≡ 1) ⊎ (bit_at b k ≡ 1) = grind (arith, one) in
    elim cases [ inl l ↦ inl (bit_of_one a k l) | inr r ↦ inr (bit_of_one b k r) ]

pub or_has_left : (a b k : ℕ) → IsBitSet a k → IsBitSet (bit_or a b) k
or_has_left a b k set =
    let one = one_of_bit a k set in
    let below = bit_at-lt b k in
    bit_of_one (bit_or a b) k (rw (bit_at_or a b k) (omega arith))

pub or_has_right : (a b k : ℕ) → IsBitSet b k → IsBitSet (bit_or a b) k
or_has_right a b k set =
    let one = one_of_bit b k set in
    let below = bit_at-lt a k in
    bit_of_one (bit_or a b) k (rw (bit_at_or a b k) (omega arith))

-- a power of 2 has one bit
pub power_has_bit : (k : ℕ) → IsBitSet (2 ^ k) k
power_has_bit k = bit_of_one (2 ^ k) k (bit_at-pow_same k)

pub power_lacks_others : (k i : ℕ) → IsBitSet (2 ^ k) i → i ≢ k → ⊥
power_lacks_others k i set other =
    let one = one_of_bit (2 ^ k) i set in
    let none = bit_at-pow_other k i other in
    omega arith

-- a word that isn't 0 has a bit
pub some_bit : (n : ℕ) → n ≢ 0 → n < 2 ^ 64 → (k : ℕ) × (k < 64) × IsBitSet n k
some_bit n other fits =
    let lowest = bit_at-trailing_zeros w64 n (omega arith) fits in
    (trailing_zeros w64 n, lowest.0, bit_of_one n (trailing_zeros w64 n) lowest.1)

-- the bits of `b & !a` are those of b that a lacks
module _ (a b : ℕ) (a_fits : a < 2 ^ 64) (b_fits : b < 2 ^ 64) where
  pub bit_at_lacking : (k : ℕ) → k < 64 → bit_at (bit_and b (bit_not w64 a)) k ≡ min (bit_at b k) (1 - bit_at a k)
  bit_at_lacking k below = rw (bit_at_and b (bit_not w64 a) k, bit_at_not w64 a k a_fits below)

  pub or_of_none_lacking : bit_and b (bit_not w64 a) ≡ 0 → bit_or a b ≡ a
  or_of_none_lacking none = same_from_bits_below 64 (bit_or a b) a (or_lt 64 a b a_fits b_fits) a_fits same
    where
      same : (k : ℕ) → k < 64 → bit_at (bit_or a b) k ≡ bit_at a k
      same k below =
          let here = bit_at_lacking k below in
          let gone : bit_at (bit_and b (bit_not w64 a)) k ≡ 0 = rw none (bit_at-zero k) in
          let a_bit = bit_at-lt a k in
          let b_bit = bit_at-lt b k in
          rw (bit_at_or a b k) (omega arith)

  pub bit_lacking : bit_or a b ≢ a → (k : ℕ) × (k < 64) × IsBitSet b k × (IsBitSet a k → ⊥)
  bit_lacking other =
      let small = and_le_l b (bit_not w64 a) in
      let found = some_bit (bit_and b (bit_not w64 a)) (λ none. other (or_of_none_lacking none)) (omega arith) in
      let k = found.0 in
      let one = one_of_bit (bit_and b (bit_not w64 a)) k found.2 in
      let here = bit_at_lacking k found.1 in
      let b_bit = bit_at-lt b k in
      (k, found.1, bit_of_one b k (omega arith), λ set. let a_bit = one_of_bit a k set in omega arith)
