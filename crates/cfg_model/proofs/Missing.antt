-- How many numbers below its size a set lacks: fewer, once it has grown.
use Rattle.std.proofs.Common.{◌≡◌, ◌≢◌, ℕ, zero, suc, ◌*◌, ◌^◌, ◌<◌, ◌≤◌, ◌/◌, ◌%◌, inl, inr, arith, slice_index}
use Rattle.std.specs.Prelude.{IsBitSet}
use Rattle.std.proofs.lemmas.Nat.{pow_pos}
use Rattle.std.proofs.lemmas.Nat.Bits.{and_pow}
use Rattle.std.specs.Int.{bit_at}
use Rattle.std.proofs.lemmas.Nat.Bits.{bit_at-lt}
use Rattle.std.proofs.lemmas.Bool.{cases_eq}
use Rattle.ck_base.specs.BitSet.{BitSet, Has, Grew}
use Rattle.cfg_model.specs.within.Missing.{zeros, bit_of, missing}

-- a bit is set where it is 1
pub one_of_bit : (n k : ℕ) → IsBitSet n k → bit_at n k ≡ 1
one_of_bit n k set =
    let below = bit_at-lt n k in
    let nonzero : bit_at n k ≢ 0 = λ none. set (rw (and_pow n k, none) (omega arith)) in
    omega arith

pub bit_of_one : (n k : ℕ) → bit_at n k ≡ 1 → IsBitSet n k
bit_of_one n k one none =
    let same : 1 * 2 ^ k ≡ 0 = rw (and_pow n k, one) at none in
    omega (arith, pow_pos k)

pub zeros_fall : (f h : ℕ → ℕ) (k : ℕ) → ((i : ℕ) → i < k → f i ≤ h i) → zeros h k ≤ zeros f k
zeros_fall f h zero less = omega arith
zeros_fall f h (suc k) less =
    let here = less k (omega arith) in
    let before = zeros_fall f h k (λ i lt. less i (omega arith)) in
    omega arith

pub zeros_fall_more : (f h : ℕ → ℕ) (k i : ℕ) → ((j : ℕ) → j < k → f j ≤ h j) → i < k → f i ≡ 0 → h i ≡ 1
    → zeros h k < zeros f k
zeros_fall_more f h zero i less lt old new = absurd (omega arith)
zeros_fall_more f h (suc k) i less lt old new = elim (cases_eq i k) [
  | inl here ↦
      let before = zeros_fall f h k (λ j below. less j (omega arith)) in
      let was : f k ≡ 0 = rw (← here) old in
      let is : h k ≡ 1 = rw (← here) new in
      omega arith
  | inr other ↦
      let below : i < k = omega arith in
      let before = zeros_fall_more f h k i (λ j lt2. less j (omega arith)) below old new in
      let here = less k (omega arith) in
      omega arith
]

pub bits_kept : (old new : BitSet) → ((i : ℕ) → Has old i → Has new i) → (i : ℕ) → i < old.size → bit_of old i ≤ bit_of new i
bits_kept old new kept i below =
    let low = bit_at-lt (slice_index old.words (i / 64)) (i % 64) in
    elim (cases_eq (bit_of old i) 0) [
      | inl none ↦ omega arith
      | inr other ↦
          let was : bit_of old i ≡ 1 = omega arith in
          let has : Has old i = (below, bit_of_one (slice_index old.words (i / 64)) (i % 64) was) in
          let is : bit_of new i ≡ 1 = one_of_bit (slice_index new.words (i / 64)) (i % 64) (kept i has).1 in
          omega arith
    ]

pub missing_falls : (old new : BitSet) → new.size ≡ old.size → ((i : ℕ) → Has old i → Has new i) → missing new ≤ missing old
unfolding missing
missing_falls old new size kept = rw size (zeros_fall (bit_of old) (bit_of new) old.size (bits_kept old new kept))

pub missing_falls_more : (old new : BitSet) → new.size ≡ old.size → ((i : ℕ) → Has old i → Has new i) → Grew old new
    → missing new < missing old
unfolding missing
missing_falls_more old new size kept (i, has, lacks) =
    let below : i < old.size = rw size at has.0 in
    let low = bit_at-lt (slice_index old.words (i / 64)) (i % 64) in
    let new_bit : bit_of new i ≡ 1 = one_of_bit (slice_index new.words (i / 64)) (i % 64) has.1 in
    let old_bit : bit_of old i ≡ 0 = elim (cases_eq (bit_of old i) 0) [
      | inl none ↦ none
      | inr other ↦
          let one : bit_of old i ≡ 1 = omega arith in
          absurd (lacks (below, bit_of_one (slice_index old.words (i / 64)) (i % 64) one))
    ] in
    rw size (zeros_fall_more (bit_of old) (bit_of new) old.size i (bits_kept old new kept) below old_bit new_bit)
