-- What a change of a set's words does to the numbers of the set.
use Rattle.std.proofs.Common.{◌≡◌, ℕ, ◌+◌, ◌/◌, ◌%◌, ◌*◌, ◌^◌, ◌<◌, ◌≢◌, ◌⊎◌, inl, inr, refl, sym, ◌∙◌, subst, arith, List, length, get_or, set, length-set, w64, Fits, bit_or, slice_index, get_or-set_same, get_or-set_other}
use Rattle.std.specs.Prelude.{IsBitSet}
use Rattle.std.proofs.lemmas.Nat.{one_shl}
use Rattle.std.proofs.lemmas.List.{get_or_default, get_or_past}
use Rattle.std.proofs.Math.Facts.{Fits-lt-pow}
use Rattle.std.proofs.lemmas.Bool.{cases_eq, cases_lt}
use Rattle.ck_base.specs.BitSet.{BitSet, Has, IsEmpty, Adds, Grew}
use Rattle.ck_base.specs.Words.{IsFit, AreJoined, Differ}
use Rattle.ck_base.proofs.OrJoinsBits.{some_bit, bit_of_or, or_has_left, or_has_right, power_has_bit, power_lacks_others, bit_lacking}

-- the set that these words hold
abbrev pub of_words : ℕ → List ℕ → BitSet
of_words size words = record { size = size; words = words }

-- the words after the number's bit was put into its word
abbrev pub with_number : List ℕ → ℕ → ℕ → List ℕ
with_number words i word = set words (i / 64) (bit_or word (1 * 2 ^ (i % 64) % 2 ^ 64))

module _ (size : ℕ) (words : List ℕ) (i word : ℕ) (fit : IsFit size words) (below : i < size)
    (read : word ≡ get_or words (i / 64) word) where
  pub within : i / 64 < length words
  within = omega (arith, fit.count)

  -- the number's word gets its bit, and the others stay
  pub own_word : (k : ℕ) → k / 64 ≡ i / 64 → slice_index (with_number words i word) (k / 64) ≡ bit_or (slice_index words (k / 64)) (2 ^ (i % 64))
  own_word k same =
      let place : i % 64 < 64 = omega arith in
      let is : word ≡ slice_index words (i / 64) = read ∙ get_or_default words (i / 64) word 0 within in
      rw (same, get_or-set_same words (i / 64) _ 0 within, one_shl (i % 64) 64 place, is)

  pub other_word : (k : ℕ) → k / 64 ≢ i / 64 → slice_index (with_number words i word) (k / 64) ≡ slice_index words (k / 64)
  other_word k other = get_or-set_other words (i / 64) (k / 64) _ 0 other

  -- so a bit of the new words is an old one or the number's
  pub old_or_own : (k : ℕ) → IsBitSet (slice_index (with_number words i word) (k / 64)) (k % 64)
      → IsBitSet (slice_index words (k / 64)) (k % 64) ⊎ (k ≡ i)
  old_or_own k bit = elim (cases_eq (k / 64) (i / 64)) [
    | inl same ↦ elim (bit_of_or _ _ (k % 64) (rw (own_word k same) at bit)) [
      | inl old ↦ inl old
      | inr own ↦ elim (cases_eq (k % 64) (i % 64)) [
        | inl also ↦ inr (omega arith)
        | inr other ↦ absurd (power_lacks_others (i % 64) (k % 64) own other)
      ]
    ]
    | inr other ↦ inl (rw (other_word k other) at bit)
  ]

  pub old_stay : (k : ℕ) → IsBitSet (slice_index words (k / 64)) (k % 64) → IsBitSet (slice_index (with_number words i word) (k / 64)) (k % 64)
  old_stay k bit = elim (cases_eq (k / 64) (i / 64)) [
    | inl same ↦ rw (own_word k same) (or_has_left _ _ (k % 64) bit)
    | inr other ↦ rw (other_word k other) bit
  ]

  pub own_is_set : IsBitSet (slice_index (with_number words i word) (i / 64)) (i % 64)
  own_is_set = rw (own_word i refl) (or_has_right _ _ (i % 64) (power_has_bit (i % 64)))

  pub with_number_adds : Adds (of_words size words) (of_words size (with_number words i word)) (λ k. k ≡ i)
  with_number_adds = record {
    size = refl;
    only = λ k has. elim (old_or_own k has.1) [ inl old ↦ inl (has.0, old) | inr own ↦ inr own ];
    kept = λ k has. (has.0, old_stay k has.1);
    more = λ k same. subst (Has (of_words size (with_number words i word))) (sym same) (below, own_is_set);
  }

  pub with_number_fits : IsFit size (with_number words i word)
  with_number_fits = record {
    count = length-set words (i / 64) _ ∙ fit.count;
    inside = λ k bit. elim (old_or_own k bit) [ inl old ↦ fit.inside k old | inr own ↦ omega arith ];
  }

-- a bit of a word is that of some number
pub number_at : (P : ℕ → ℕ → Type 0) (k j : ℕ) → j < 64 → P k j → (i : ℕ) × P (i / 64) (i % 64)
number_at P k j below holds =
    let word : (64 * k + j) / 64 ≡ k = omega arith in
    let place : (64 * k + j) % 64 ≡ j = omega arith in
    (64 * k + j, rw (word, place) holds)

-- each number of the list is a word
abbrev pub AreWords : List ℕ → Type 0
AreWords words = (k : ℕ) → Fits w64 (slice_index words k)

abbrev pub AreZeros : List ℕ → Type 0
AreZeros words = (k : ℕ) → k < length words → slice_index words k ≡ 0

module _ (size : ℕ) (words : List ℕ) where
  pub empty_of_zeros : AreZeros words → IsEmpty (of_words size words)
  empty_of_zeros zeros i has = elim (cases_lt (i / 64) (length words)) [
    | inl lt ↦ has.1 (rw (zeros (i / 64) lt))
    | inr past ↦ has.1 (rw (get_or_past words (i / 64) 0 past))
  ]

  pub zeros_of_empty : IsFit size words → AreWords words → IsEmpty (of_words size words) → AreZeros words
  zeros_of_empty fit range empty k lt = elim (cases_eq (slice_index words k) 0) [
    | inl zero ↦ zero
    | inr other ↦
        let bit = some_bit (slice_index words k) other (Fits-lt-pow (range k)) in
        let number = number_at (λ w j. IsBitSet (slice_index words w) j) k bit.0 bit.1 bit.2 in
        absurd (empty number.0 (fit.inside number.0 number.1, number.1))
  ]

-- a join of the words joins the sets, and the set grows where a word changes
module _ (size : ℕ) (mine theirs joined : List ℕ) (are : AreJoined mine theirs joined) where
  pub joined_adds : Adds (of_words size mine) (of_words size joined) (Has (of_words size theirs))
  joined_adds = record {
    size = refl;
    only = λ i has. elim (bit_of_or _ _ (i % 64) (rw (are.each (i / 64)) at has.1)) [ inl l ↦ inl (has.0, l) | inr r ↦ inr (has.0, r) ];
    kept = λ i has. (has.0, rw (are.each (i / 64)) (or_has_left _ _ (i % 64) has.1));
    more = λ i has. (has.0, rw (are.each (i / 64)) (or_has_right _ _ (i % 64) has.1));
  }

  pub changed_where_grown : Grew (of_words size mine) (of_words size joined) → Differ mine joined
  changed_where_grown (i, has, lacks) = (i / 64, λ same. lacks (has.0, rw same at has.1))

  pub grown_where_changed : IsFit size theirs → AreWords mine → AreWords theirs → Differ mine joined
      → Grew (of_words size mine) (of_words size joined)
  grown_where_changed fit my_range their_range (k, differs) =
      let bit = bit_lacking _ _ (Fits-lt-pow (my_range k)) (Fits-lt-pow (their_range k)) (λ same. differs (are.each k ∙ same)) in
      let number = number_at IsLacking k bit.0 bit.1 (bit.2, bit.3) in
      let i = number.0 in
      (i, (fit.inside i number.1.0, rw (are.each (i / 64)) (or_has_right _ _ (i % 64) number.1.0)), λ has. number.1.1 has.1)
    where
      IsLacking : ℕ → ℕ → Type 0
      IsLacking w j = IsBitSet (slice_index theirs w) j × (IsBitSet (slice_index mine w) j → ⊥)
