-- Names that are met: those before keep their numbers, and a new one has the next.
use Rattle.std.proofs.Common.{◌≡◌, ℕ, ◌+◌, ◌≤◌, Bool, true, false, cond, if◌then◌else◌, refl, sym, ap, ◌∙◌, arith, List, [], ◌∷◌, ◌++◌, length, length-append, Option, Some, None, Contains, slice_get}
use Rattle.std.specs.List.{position_from}
use Rattle.std.specs.Option.{is_some}
use Rattle.std.specs.Str.{bytes_eq}
use Rattle.std.proofs.lemmas.Iterator.Adapters.{position_from-zero}
use Rattle.std.proofs.lemmas.Option.{none-some}
use Rattle.std.proofs.lemmas.Slice.Eq.{bytes_eq-Decides}
use Rattle.ck_base.specs.Numbered.{AreApart, number_of, met}
use Rattle.ck_base.proofs.NameFound.{place_of, contained_at, there_where_found, found_where_there}
use Rattle.ck_base.proofs.NameAdded.{apart_longer}

-- what is found in front is found there, whatever follows
found_in_front : (test : List ℕ → Bool) (names more : List (List ℕ)) (k n : ℕ)
    → position_from test k names ≡ Some n → position_from test k (names ++ more) ≡ Some n
found_in_front test [] more k n found = absurd (none-some n found)
found_in_front test (name ∷ names) more k n found =
    elim (test name) as (λ b. cond b (Some k) (position_from test (k + 1) names) ≡ Some n
    → cond b (Some k) (position_from test (k + 1) (names ++ more)) ≡ Some n) [
      | true ↦ λ here. here
      | false ↦ λ later. found_in_front test names more (k + 1) n later
    ] found

-- what isn't found in front is looked for in what follows
not_in_front : (test : List ℕ → Bool) (names more : List (List ℕ)) (k : ℕ)
    → position_from test k names ≡ None → position_from test k (names ++ more) ≡ position_from test (k + length names) more
not_in_front test [] more k none = ap (λ j. position_from test j more) (omega arith)
not_in_front test (name ∷ names) more k none =
    elim (test name) as (λ b. cond b (Some k) (position_from test (k + 1) names) ≡ None
    → cond b (Some k) (position_from test (k + 1) (names ++ more)) ≡ position_from test (k + length (name ∷ names)) more) [
      | true ↦ λ here. absurd (none-some k (sym here))
      | false ↦ λ later. not_in_front test names more (k + 1) later ∙ ap (λ j. position_from test j more) (omega arith)
    ] none

from_zero : (names : List (List ℕ)) (name : List ℕ) → number_of names name ≡ position_from (bytes_eq name) 0 names
from_zero names name = position_from-zero (bytes_eq name) names

-- a name keeps its number where others follow
pub number_of-append : (names more : List (List ℕ)) (name : List ℕ) (n : ℕ)
    → number_of names name ≡ Some n → number_of (names ++ more) name ≡ Some n
number_of-append names more name n found =
    from_zero (names ++ more) name ∙ found_in_front (bytes_eq name) names more 0 n (sym (from_zero names name) ∙ found)

-- a new name has the next number
pub number_of-new : (names : List (List ℕ)) (name : List ℕ)
    → number_of names name ≡ None → number_of (names ++ name ∷ []) name ≡ Some (length names)
number_of-new names name none =
    let last = not_in_front (bytes_eq name) names (name ∷ []) 0 (sym (from_zero names name) ∙ none) in
    let itself : bytes_eq name name ≡ true = (bytes_eq-Decides name name).1 refl in
    from_zero (names ++ name ∷ []) name ∙ last ∙ ap (λ b. cond b (Some (0 + length names)) None) itself ∙ ap Some (omega arith)

-- the name that has the number stands there
pub name_at_number : (names : List (List ℕ)) (name : List ℕ) (n : ℕ) → number_of names name ≡ Some n → slice_get names n ≡ Some name
name_at_number names name n found = there_where_found names name n found

-- where no name is there twice, a name's place is its number
pub number_at_place : (names : List (List ℕ)) (name : List ℕ) (n : ℕ) → AreApart names
    → slice_get names n ≡ Some name → number_of names name ≡ Some n
number_at_place names name n apart there = found_where_there names name apart n there

-- a name has no number exactly where it isn't there
pub none_where_absent : (names : List (List ℕ)) (name : List ℕ) → (Contains names name → ⊥) → number_of names name ≡ None
none_where_absent names name absent = cases (number_of names name) (λ n found. found) where
  cases : (number : Option ℕ) → ((n : ℕ) → number ≡ Some n → number_of names name ≡ Some n) → number ≡ None
  cases None is = refl
  cases (Some n) is = absurd (absent (contained_at names name n (there_where_found names name n (is n refl))))

pub absent_where_none : (names : List (List ℕ)) (name : List ℕ) → AreApart names → number_of names name ≡ None → Contains names name → ⊥
absent_where_none names name apart none has =
    let at = place_of names name has in
    none-some at.0 (sym none ∙ found_where_there names name apart at.0 at.1)

-- a name that has a number is met without a change; one that has none goes to the end
pub met_known : (names : List (List ℕ)) (name : List ℕ) (n : ℕ) → number_of names name ≡ Some n → met names (name ∷ []) ≡ names
met_known names name n found = ap (λ o. if is_some o then names else names ++ name ∷ []) found

pub met_new : (names : List (List ℕ)) (name : List ℕ) → number_of names name ≡ None → met names (name ∷ []) ≡ names ++ name ∷ []
met_new names name none = ap (λ o. if is_some o then names else names ++ name ∷ []) none

-- names are met one list after the other
pub met-append : (names first second : List (List ℕ)) → met names (first ++ second) ≡ met (met names first) second
met-append names [] second = refl
met-append names (name ∷ first) second =
    met-append (if is_some (number_of names name) then names else names ++ name ∷ []) first second

-- what has a number keeps it while others are met
pub number_of-met : (names more : List (List ℕ)) (name : List ℕ) (n : ℕ)
    → number_of names name ≡ Some n → number_of (met names more) name ≡ Some n
number_of-met names [] name n found = found
number_of-met names (first ∷ more) name n found =
    elim (is_some (number_of names first)) as (λ b. number_of (met (if b then names else names ++ first ∷ []) more) name ≡ Some n) [
      | true ↦ number_of-met names more name n found
      | false ↦ number_of-met (names ++ first ∷ []) more name n (number_of-append names (first ∷ []) name n found)
    ]

-- a name that was met has a number
pub met_has_number : (names more : List (List ℕ)) (name : List ℕ)
    → (n : ℕ) × (number_of (met names (name ∷ more)) name ≡ Some n)
met_has_number names more name =
    elim (number_of names name) as (λ o. number_of names name ≡ o
    → (n : ℕ) × (number_of (met (if is_some o then names else names ++ name ∷ []) more) name ≡ Some n)) [
      | None ↦ λ none. (length names, number_of-met (names ++ name ∷ []) more name (length names) (number_of-new names name none))
      | Some n ↦ λ found. (n, number_of-met names more name n found)
    ] refl

-- no more names come than are met
pub length-met : (names more : List (List ℕ)) → length (met names more) ≤ length names + length more
length-met names [] = omega arith
length-met names (name ∷ more) =
    elim (is_some (number_of names name)) as (λ b. length (met (if b then names else names ++ name ∷ []) more) ≤ length names + length (name ∷ more)) [
      | true ↦ omega (arith, length-met names more)
      | false ↦ omega (arith, length-met (names ++ name ∷ []) more, length-append names (name ∷ []))
    ]

-- no name comes to be there twice
pub met_apart : (names more : List (List ℕ)) → AreApart names → AreApart (met names more)
met_apart names [] apart = apart
met_apart names (name ∷ more) apart =
    elim (number_of names name) as (λ o. number_of names name ≡ o
    → AreApart (met (if is_some o then names else names ++ name ∷ []) more)) [
      | None ↦ λ none. met_apart (names ++ name ∷ []) more (apart_longer names name (absent_where_none names name apart none) apart)
      | Some n ↦ λ found. met_apart names more apart
    ] refl
