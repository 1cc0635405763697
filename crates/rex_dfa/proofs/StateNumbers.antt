-- The number that a set of positions gets.
use Rattle.std.proofs.Common.{◌≡◌, ℕ, ◌^◌, ◌<◌, ◌≤◌, ◌↔◌, List, [], ◌∷◌, ◌++◌, length, get_or, Option, Some, None, slice_get, Result, Ok, Err, IfOk, All, arith, refl, sym, subst, ◌∙◌}
use Rattle.std.proofs.lemmas.Option.{slice_get_within, slice_get-get_or, same_Some}
use Rattle.ck_base.specs.BitSet.{Has}
use Rattle.ck_base.specs.Numbered.{met, number_of}
use Rattle.ck_base.proofs.NamesMet.{met_known, met_new, name_at_number, number_of-new}
use Rattle.ck_base.specs.Words.{IsFit}
use Rattle.rex_dfa.specs.within.Positions.{set_with, TakesAt, NextOf, IsSameTaken}
use Rattle.rex_dfa.specs.within.Subset.{Stands, for_none, for_state, set_at, Numbers, empty, known, added, full}
use Rattle.rex_dfa.specs.declared.positions.Positions.{Positions}

-- a set's number is an old one, and nothing changes, or the next one
pub data IsInterned (old new : List (List ℕ)) (words : List ℕ) (n : ℕ) : Type 0 where
  old_one : new ≡ old → slice_get old n ≡ Some words → IsInterned old new words n
  new_one : new ≡ old ++ words ∷ [] → n ≡ length old → IsInterned old new words n

pub interned : (old new : List (List ℕ)) (words : List ℕ) (n : ℕ) → new ≡ met old (words ∷ []) → number_of new words ≡ Some n
    → IsInterned old new words n
interned old new words n is number = by_case (number_of old words) refl
  where
    by_case : (found : Option ℕ) → number_of old words ≡ found → IsInterned old new words n
    by_case (Some k) is_old =
        let same : new ≡ old = is ∙ met_known old words k is_old in
        old_one same (name_at_number old words n (subst (λ names. number_of names words ≡ Some n) same number))
    by_case None none =
        let longer : new ≡ old ++ words ∷ [] = is ∙ met_new old words none in
        new_one longer (same_Some n (length old)
        (sym (subst (λ names. number_of names words ≡ Some n) longer number) ∙ number_of-new old words none))

module _ (positions : Positions) (old new : List (List ℕ)) (words : List ℕ) (P : ℕ → Type 0) (n : ℕ) (few : length old ≤ 4096)
    (fit : IsFit positions.size words) (small : All (λ word. word < 2 ^ 64) words) (some : ((q : ℕ) → P q → ⊥) → ⊥)
    (has : (q : ℕ) → Has (set_with positions words) q ↔ P q) where
  pub too_many : IsInterned old new words n → 4096 ≤ n → Numbers positions old new P None
  too_many (old_one same there) large = let within = slice_get_within old n words there in absurd (omega arith)
  too_many (new_one is number) large = full words is (omega arith) fit small some has

  pub numbered : IsInterned old new words n → n < 4096 → Numbers positions old new P (Some n)
  numbered (old_one same at_n) less = known words n same at_n has
  numbered (new_one is number) less = added words n is number less fit small some has

-- what holds of a set's positions may be said in other words
pub numbers_alike : (positions : Positions) (old new : List (List ℕ)) (P Q : ℕ → Type 0) (number : Option ℕ) → ((q : ℕ) → P q ↔ Q q)
    → Numbers positions old new P number → Numbers positions old new Q number
numbers_alike positions old new P Q number same (empty is none) = empty is (λ q h. none q ((same q).1 h))
numbers_alike positions old new P Q number same (known words t is there has) = known words t is there (λ q. (λ h. (same q).0 ((has q).0 h), λ h. (has q).1 ((same q).1 h)))
numbers_alike positions old new P Q number same (added words t is number_is less fit small some has) =
    added words t is number_is less fit small (λ none. some (λ q h. none q ((same q).0 h))) (λ q. (λ h. (same q).0 ((has q).0 h), λ h. (has q).1 ((same q).1 h)))
numbers_alike positions old new P Q number same (full words is large fit small some has) =
    full words is large fit small (λ none. some (λ q h. none q ((same q).0 h))) (λ q. (λ h. (same q).0 ((has q).0 h), λ h. (has q).1 ((same q).1 h)))

pub found_alike : {E : Type 0} (positions : Positions) (old new : List (List ℕ)) (P Q : ℕ → Type 0) (result : Result (Option ℕ) E) → ((q : ℕ) → P q ↔ Q q)
    → IfOk result (Numbers positions old new P) → IfOk result (Numbers positions old new Q)
found_alike positions old new P Q (Ok number) same found = numbers_alike positions old new P Q number same found
found_alike positions old new P Q (Err e) same found = found

-- a number that stands for a set is its number
pub numbers_of_stands : (positions : Positions) (sets : List (List ℕ)) (P : ℕ → Type 0) (t : ℕ) → Stands (set_at positions sets) (length sets) P t → Numbers positions sets sets P (Some t)
numbers_of_stands positions sets P t (for_none _ is none) = subst (λ n. Numbers positions sets sets P (Some n)) (sym is) (empty refl none)
numbers_of_stands positions sets P t (for_state _ within has) = known (get_or sets t []) t refl (slice_get-get_or sets t [] within) has

pub next_alike : (positions : Positions) (words : List ℕ) (a b : ℕ) → ((p : ℕ) → TakesAt positions p a ↔ TakesAt positions p b) → (q : ℕ) → NextOf positions words a q ↔ NextOf positions words b q
next_alike positions words a b same q = (
  λ h. let (p, has, takes, follows) = h in (p, has, (same p).0 takes, follows),
  λ h. let (p, has, takes, follows) = h in (p, has, (same p).1 takes, follows),
)

-- the same where the same positions of the set take both bytes
pub next_taken : (positions : Positions) (words : List ℕ) (a b : ℕ) → IsSameTaken positions words a b → (q : ℕ)
    → NextOf positions words a q ↔ NextOf positions words b q
next_taken positions words a b same q = (
  λ h. let (p, has, takes, follows) = h in (p, has, (same p has).0 takes, follows),
  λ h. let (p, has, takes, follows) = h in (p, has, (same p has).1 takes, follows),
)
