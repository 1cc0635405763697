-- A name that isn't among the names goes to the end, where its number is the next one.
use Rattle.std.proofs.Common.{◌≡◌, ℕ, ◌+◌, ◌^◌, ◌<◌, Bool, false, if◌then◌else◌, inl, inr, refl, sym, ap, ◌∙◌, arith, List, [], ◌∷◌, ◌++◌, length, get_or, Contains, Vec, Global, length-append}
use Rattle.std.specs.List.{position_or_len, list_any, All}
use Rattle.std.specs.Str.{bytes_eq}
use Rattle.std.proofs.lemmas.Bool.{false_from_ne_true}
use Rattle.std.proofs.lemmas.List.{map-append, get_or_default}
use Rattle.std.proofs.lemmas.List.Folds.{list_any_none}
use Rattle.std.proofs.lemmas.List.Sums.{position_or_len_is}
use Rattle.std.proofs.lemmas.Slice.Eq.{bytes_eq-Decides}
use Rattle.ck_base.specs.Numbered.{texts, AreApart, AreNumbered}
use Rattle.ck_base.proofs.Counting.{element_of_longer}
use Rattle.ck_base.proofs.NameFound.{position_or_len-texts, contained_at}

pub list_any-texts : (test : List ℕ → Bool) (vectors : List (Vec ℕ Global)) → list_any (λ v. test v.items) vectors ≡ list_any test (texts vectors)
list_any-texts test [] = refl
list_any-texts test (v ∷ vs) = rw (list_any-texts test vs)

module _ (names : List (List ℕ)) (name : List ℕ) (absent : Contains names name → ⊥) where
  pub none_passes : All (λ other. bytes_eq name other ≡ false) names
  none_passes k d within = false_from_ne_true _ (λ equal.
      absent (k, within, get_or_default names k name d within ∙ sym ((bytes_eq-Decides name (get_or names k d)).0 equal)))

  pub place_is_next : position_or_len (bytes_eq name) names ≡ length names
  place_is_next = position_or_len_is (bytes_eq name) names (length names) [] (omega arith) (λ k lt. none_passes k [] lt) (λ lt. absurd (omega arith))

  pub apart_longer : AreApart names → AreApart (names ++ name ∷ [])
  apart_longer apart = λ i j other at_i at_j. elim (element_of_longer names name other i at_i) [
    | inl l ↦ elim (element_of_longer names name other j at_j) [
      | inl m ↦ apart i j other l m
      | inr r ↦ absurd (absent (contained_at names name i (rw r.1 l)))
    ]
    | inr r ↦ elim (element_of_longer names name other j at_j) [
      | inl m ↦ absurd (absent (contained_at names name j (rw r.1 m)))
      | inr s ↦ r.0 ∙ sym s.0
    ]
  ]

  pub numbered_longer : AreNumbered names → length names + 1 < 2 ^ 32 → AreNumbered (names ++ name ∷ [])
  numbered_longer numbered room =
      record { few = omega (arith, length-append names (name ∷ [])); apart = apart_longer numbered.apart }

-- what an insertion into a set does with a name that isn't there
module _ (old new : List (Vec ℕ Global)) (owned : Vec ℕ Global) (absent : Contains (texts old) owned.items → ⊥)
    (inserted : new ≡ (if list_any (λ v. bytes_eq owned.items v.items) old then old else old ++ owned ∷ [])) where
  pub goes_last : texts new ≡ texts old ++ owned.items ∷ []
  goes_last =
      let none = list_any-texts (bytes_eq owned.items) old ∙ list_any_none (bytes_eq owned.items) (texts old) (none_passes (texts old) owned.items absent) in
      ap texts (inserted ∙ ap (λ b. if b then old else old ++ owned ∷ []) none) ∙ map-append (λ v. v.items) old (owned ∷ [])

  pub has_next_number : (n : ℕ) → n ≡ position_or_len (λ v. bytes_eq owned.items v.items) old → n ≡ length (texts old)
  has_next_number n place = place ∙ position_or_len-texts (bytes_eq owned.items) old ∙ place_is_next (texts old) owned.items absent

  pub insertion_numbered : AreNumbered (texts old) → length (texts old) + 1 < 2 ^ 32 → AreNumbered (texts new)
  insertion_numbered numbered room = rw goes_last (numbered_longer (texts old) owned.items absent numbered room)
