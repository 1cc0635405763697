-- Two sets with the same numbers have the same words.
use Rattle.std.proofs.Common.{◌≡◌, ℕ, ◌+◌, ◌*◌, ◌/◌, ◌%◌, ◌^◌, ◌<◌, ◌↔◌, List, get_or, arith, sym, subst, ◌∙◌, inl, inr, IsBitSet, slice_index, All}
use Rattle.std.specs.Int.{bit_at}
use Rattle.std.proofs.lemmas.Bool.{cases_eq}
use Rattle.std.proofs.lemmas.Grind.{same_number_lists}
use Rattle.std.proofs.lemmas.Nat.Bits.{bit_at-lt, same_from_bits_below}
use Rattle.ck_base.specs.BitSet.{Has}
use Rattle.ck_base.specs.Words.{IsFit}
use Rattle.ck_base.proofs.OrJoinsBits.{one_of_bit, bit_of_one}

module _ (size : ℕ) (a b : List ℕ) (fit_a : IsFit size a) (fit_b : IsFit size b) (small_a : All (λ w. w < 2 ^ 64) a) (small_b : All (λ w. w < 2 ^ 64) b)
    (same : (q : ℕ) → Has (record { size = size; words = a }) q ↔ Has (record { size = size; words = b }) q) where
  bit_there : (x y : List ℕ) (fit : IsFit size x) → ((q : ℕ) → Has (record { size = size; words = x }) q → Has (record { size = size; words = y }) q)
      → (k i : ℕ) → i < 64 → bit_at (slice_index x k) i ≡ 1 → bit_at (slice_index y k) i ≡ 1
  bit_there x y fit holds k i below one =
      let word : (64 * k + i) / 64 ≡ k = omega arith in
      let place : (64 * k + i) % 64 ≡ i = omega arith in
      let set : IsBitSet (slice_index x ((64 * k + i) / 64)) ((64 * k + i) % 64) = rw (word, place) (bit_of_one (slice_index x k) i one) in
      let there = holds (64 * k + i) (fit.inside (64 * k + i) set, set) in
      one_of_bit (slice_index y k) i (subst (λ j. IsBitSet (slice_index y k) j) place (subst (λ j. IsBitSet (slice_index y j) ((64 * k + i) % 64)) word there.1))

  same_bit : (k i : ℕ) → i < 64 → bit_at (slice_index a k) i ≡ bit_at (slice_index b k) i
  same_bit k i below =
      let x = bit_at-lt (slice_index a k) i in
      let y = bit_at-lt (slice_index b k) i in
      elim (cases_eq (bit_at (slice_index a k) i) 1) [
        | inl one ↦ one ∙ sym (bit_there a b fit_a (λ q. (same q).0) k i below one)
        | inr none ↦ elim (cases_eq (bit_at (slice_index b k) i) 1) [
          | inl one ↦ absurd (none (bit_there b a fit_b (λ q. (same q).1) k i below one))
          | inr also ↦ omega arith
        ]
      ]

  pub same_words : a ≡ b
  same_words = same_number_lists a b (fit_a.count ∙ sym fit_b.count) (λ k within.
      same_from_bits_below 64 (get_or a k 0) (get_or b k 0) (small_a k 0 within) (small_b k 0 (let e = fit_a.count in let f = fit_b.count in omega arith)) (λ i below. same_bit k i below))
