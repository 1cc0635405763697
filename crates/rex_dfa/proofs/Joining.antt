-- The set that comes next, joined together position by position.
use Rattle.std.proofs.Common.{◌≡◌, ℕ, zero, suc, ◌+◌, ◌*◌, ◌/◌, ◌%◌, min, IsBitSet, slice_index, bit_and, ◌<◌, ◌≤◌, ◌↔◌, List, length, Some, slice_get, arith, refl, sym, subst, inl, inr, ◌∙◌}
use Rattle.std.proofs.lemmas.Bool.{cases_eq}
use Rattle.std.proofs.lemmas.Option.{same_Some}
use Rattle.std.specs.Int.{bit_at}
use Rattle.std.proofs.lemmas.Nat.Bits.{bit_at-lt, bit_at_and, bit_at-zero}
use Rattle.ck_base.specs.BitSet.{BitSet, Has, Adds}
use Rattle.ck_base.specs.Words.{IsFit}
use Rattle.ck_base.proofs.OrJoinsBits.{one_of_bit, bit_of_one}
use Rattle.rex_dfa.specs.within.Positions.{set_with, TakesAt, FollowsAt, NextOf, AreTakers, Joining, IsSameTaken}
use Rattle.rex_dfa.specs.declared.positions.Positions.{Positions}

module _ (positions : Positions) (words : List ℕ) (byte : ℕ) where
  pub join_goes_on : (i : ℕ) (to : BitSet) → Joining positions words byte i to
      → (Has (set_with positions words) i × TakesAt positions i byte → ⊥) → Joining positions words byte (i + 1) to
  join_goes_on i to before none = record {
    size = before.size;
    has = λ q. (
      λ h. let (p, below, has, takes, follows) = (before.has q).0 h in (p, omega arith, has, takes, follows),
      λ h. elim (cases_eq h.0 i) [
        | inl same ↦ absurd (none (subst (Has (set_with positions words)) same h.2, subst (λ p. TakesAt positions p byte) same h.3))
        | inr other ↦ (before.has q).1 (h.0, (let below = h.1 in omega arith), h.2, h.3, h.4)
      ],
    );
  }

  pub join_joins : (i : ℕ) (to new follows : BitSet) → Joining positions words byte i to
      → Has (set_with positions words) i × TakesAt positions i byte → slice_get positions.follows.items i ≡ Some follows
      → Adds to new (Has follows) → Joining positions words byte (i + 1) new
  join_joins i to new follows before here is adds = record {
    size = adds.size ∙ before.size;
    has = λ q. (
      λ h. elim (adds.only q h) [
        | inl was ↦ let (p, below, has, takes, comes) = (before.has q).0 was in (p, omega arith, has, takes, comes)
        | inr new ↦ (i, omega arith, here.0, here.1, (follows, is, new))
      ],
      λ h. elim (cases_eq h.0 i) [
        | inl same ↦
            let (set, is_set, has) = subst (λ p. FollowsAt positions p q) same h.4 in
            adds.more q (subst (λ s. Has s q) (same_Some set follows (sym is_set ∙ is)) has)
        | inr other ↦ adds.kept q ((before.has q).1 (h.0, (let below = h.1 in omega arith), h.2, h.3, h.4))
      ],
    );
  }

  pub join_ended : (i : ℕ) (to : BitSet) → positions.size ≤ i → Joining positions words byte i to → (q : ℕ) → Has to q ↔ NextOf positions words byte q
  join_ended i to past done q = (
    λ h. let (p, below, has, takes, follows) = (done.has q).0 h in (p, has, takes, follows),
    λ h. (done.has q).1 (h.0, (let within = h.1.0 in omega arith), h.1, h.2, h.3),
  )

-- both bits are set where that of their `and` is
pub both_set : (a b k : ℕ) → IsBitSet (bit_and a b) k → IsBitSet a k × IsBitSet b k
both_set a b k set =
    let one = one_of_bit (bit_and a b) k set in
    let x = bit_at-lt a k in
    let y = bit_at-lt b k in
    let e : min (bit_at a k) (bit_at b k) ≡ 1 = sym (bit_at_and a b k) ∙ one in
    (bit_of_one a k (grind (arith, e)), bit_of_one b k (grind (arith, e)))

pub set_both : (a b k : ℕ) → IsBitSet a k → IsBitSet b k → IsBitSet (bit_and a b) k
set_both a b k in_a in_b = bit_of_one (bit_and a b) k (rw (bit_at_and a b k, one_of_bit a k in_a, one_of_bit b k in_b) refl)

module _ (positions : Positions) (words takers : List ℕ) (byte : ℕ) (fit : IsFit positions.size words) (are : AreTakers positions byte takers) (w bit : ℕ) (small : bit < 64) where
  word_of : (64 * w + bit) / 64 ≡ w
  word_of = omega arith

  bit_of : (64 * w + bit) % 64 ≡ bit
  bit_of = omega arith

  -- a bit of the common word is a position of the set that takes the byte
  pub here_of_bit : IsBitSet (bit_and (slice_index words w) (slice_index takers w)) bit
      → Has (set_with positions words) (64 * w + bit) × TakesAt positions (64 * w + bit) byte
  here_of_bit set =
      let (in_words, in_takers) = both_set (slice_index words w) (slice_index takers w) bit set in
      let a : IsBitSet (slice_index words ((64 * w + bit) / 64)) ((64 * w + bit) % 64) = rw (word_of, bit_of) in_words in
      let b : IsBitSet (slice_index takers ((64 * w + bit) / 64)) ((64 * w + bit) % 64) = rw (word_of, bit_of) in_takers in
      ((fit.inside _ a, a), (are.are _).0 (are.fit.inside _ b, b))

  pub bit_of_here : Has (set_with positions words) (64 * w + bit) × TakesAt positions (64 * w + bit) byte
      → IsBitSet (bit_and (slice_index words w) (slice_index takers w)) bit
  bit_of_here (has, takes) =
      let other = (are.are _).1 takes in
      let a : IsBitSet (slice_index words w) bit = subst (λ k. IsBitSet (slice_index words w) k) bit_of (subst (λ k. IsBitSet (slice_index words k) ((64 * w + bit) % 64)) word_of has.1) in
      let b : IsBitSet (slice_index takers w) bit = subst (λ k. IsBitSet (slice_index takers w) k) bit_of (subst (λ k. IsBitSet (slice_index takers k) ((64 * w + bit) % 64)) word_of other.1) in
      set_both (slice_index words w) (slice_index takers w) bit a b

-- a word without common bits adds nothing
pub join_nothing : (positions : Positions) (words takers : List ℕ) (byte : ℕ) (fit : IsFit positions.size words) (are : AreTakers positions byte takers) (w : ℕ) (to : BitSet)
    → bit_and (slice_index words w) (slice_index takers w) ≡ 0 → Joining positions words byte (64 * w) to → Joining positions words byte (64 * (w + 1)) to
join_nothing positions words takers byte fit are w to none before = to_bit 64 (omega arith) (omega arith)
  where
    to_bit : (n : ℕ) → n ≤ 64 → 64 * w + n ≡ 64 * (w + 1) → Joining positions words byte (64 * (w + 1)) to
    to_bit n within is = subst (λ i. Joining positions words byte i to) is (up_to n within)
      where
        up_to : (n : ℕ) → n ≤ 64 → Joining positions words byte (64 * w + n) to
        up_to zero within = subst (λ i. Joining positions words byte i to) (omega arith) before
        up_to (suc n) within = subst (λ i. Joining positions words byte i to) (omega arith)
            (join_goes_on positions words byte (64 * w + n) to (up_to n (omega arith)) (λ here.
            let set = bit_of_here positions words takers byte fit are w n (omega arith) here in
            no_bit n (subst (λ x. IsBitSet x n) none set)))
          where
            no_bit : (k : ℕ) → IsBitSet 0 k → ⊥
            no_bit k set = let one = one_of_bit 0 k set in let zero_bit = bit_at-zero k in omega arith

-- where each word has the same bits in common with those of both bytes, the same positions take them
pub same_taken : (positions : Positions) (words first second : List ℕ) (a b : ℕ) → IsFit positions.size words
    → AreTakers positions a first → AreTakers positions b second
    → ((w : ℕ) → w < length words → bit_and (slice_index words w) (slice_index first w) ≡ bit_and (slice_index words w) (slice_index second w))
    → IsSameTaken positions words a b
same_taken positions words first second a b fit of_a of_b same p has =
    (λ takes. one first second a b of_a of_b same takes, λ takes. one second first b a of_b of_a (λ w within. sym (same w within)) takes)
  where
    one : (first second : List ℕ) (a b : ℕ) → AreTakers positions a first → AreTakers positions b second
        → ((w : ℕ) → w < length words → bit_and (slice_index words w) (slice_index first w) ≡ bit_and (slice_index words w) (slice_index second w))
        → TakesAt positions p a → TakesAt positions p b
    one first second a b of_a of_b same takes =
        let word : p / 64 < length words = (let inside = has.0 in let count = fit.count in omega arith) in
        let place : 64 * (p / 64) + p % 64 ≡ p = omega arith in
        let here : Has (set_with positions words) (64 * (p / 64) + p % 64) × TakesAt positions (64 * (p / 64) + p % 64) a = rw place (has, takes) in
        let bit = bit_of_here positions words first a fit of_a (p / 64) (p % 64) (omega arith) here in
        let there = here_of_bit positions words second b fit of_b (p / 64) (p % 64) (omega arith)
        (subst (λ x. IsBitSet x (p % 64)) (same (p / 64) word) bit) in
        subst (λ k. TakesAt positions k b) place there.1
