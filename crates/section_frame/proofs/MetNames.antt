-- Names that are met, each once: they are those that stand there.
use Rattle.std.proofs.Common.{◌≡◌, ℕ, zero, suc, ◌+◌, ◌<◌, ◌⊎◌, inl, inr, ◌↔◌, IsTrue, Bool, true, false, List, [], ◌∷◌, ◌++◌, append_assoc, length, refl, sym, ◌∙◌, subst, Some, None, is_some, Contains, if◌then◌else◌, arith}
use Rattle.std.proofs.lemmas.List.{append-nil}
use Rattle.std.proofs.lemmas.List.Elements.{Contains-append_left, Contains-append_right, Contains-append_cases}
use Rattle.ck_base.specs.Numbered.{met, number_of}
use Rattle.ck_base.proofs.NameFound.{contained_at}
use Rattle.ck_base.proofs.NamesMet.{name_at_number}
use Rattle.section_frame.specs.Words.{IsMissing}

-- a name stands first, or later
pub at_first : (x : List ℕ) (xs : List (List ℕ)) (name : List ℕ) → x ≡ name → Contains (x ∷ xs) name
at_first x xs name same = (zero, omega arith, same)

pub at_later : (x : List ℕ) (xs : List (List ℕ)) (name : List ℕ) → Contains xs name → Contains (x ∷ xs) name
at_later x xs name has = (suc has.0, (let less = has.1 in omega (arith, less)), has.2)

pub first_or_later : (x : List ℕ) (xs : List (List ℕ)) (name : List ℕ) → Contains (x ∷ xs) name
    → (x ≡ name) ⊎ Contains xs name
first_or_later x xs name (zero, less, is) = inl is
first_or_later x xs name (suc k, less, is) = inr (k, omega (arith, less), is)

-- what is met is there, and nothing else
pub met_has : (xs ys : List (List ℕ)) (name : List ℕ) → Contains (xs ++ ys) name → Contains (met xs ys) name
met_has xs [] name has = subst (λ l. Contains l name) (append-nil xs) has
met_has xs (y ∷ ys) name has =
    elim (number_of xs y) as (λ o. number_of xs y ≡ o
    → Contains (met (if is_some o then xs else xs ++ y ∷ []) ys) name) [
      | None ↦ λ none. met_has (xs ++ y ∷ []) ys name
          (subst (λ l. Contains l name) (sym (append_assoc xs (y ∷ []) ys)) has)
      | Some n ↦ λ found. met_has xs ys name (known n found (Contains-append_cases xs (y ∷ ys) name has))
    ] refl
  where
    known : (n : ℕ) → number_of xs y ≡ Some n → Contains xs name ⊎ Contains (y ∷ ys) name → Contains (xs ++ ys) name
    known n found (inl before) = Contains-append_left xs ys name before
    known n found (inr behind) = by (first_or_later y ys name behind)
      where
        by : (y ≡ name) ⊎ Contains ys name → Contains (xs ++ ys) name
        by (inl same) =
            Contains-append_left xs ys name
            (subst (Contains xs) same (contained_at xs y n (name_at_number xs y n found)))
        by (inr later) = Contains-append_right xs ys name later

pub met_had : (xs ys : List (List ℕ)) (name : List ℕ) → Contains (met xs ys) name → Contains (xs ++ ys) name
met_had xs [] name has = subst (λ l. Contains l name) (sym (append-nil xs)) has
met_had xs (y ∷ ys) name has =
    elim (is_some (number_of xs y)) as
    (λ b. Contains (met (if b then xs else xs ++ y ∷ []) ys) name → Contains (xs ++ y ∷ ys) name) [
      | true ↦ λ known. at_front (Contains-append_cases xs ys name (met_had xs ys name known))
      | false ↦ λ new. subst (λ l. Contains l name) (append_assoc xs (y ∷ []) ys) (met_had (xs ++ y ∷ []) ys name new)
    ] has
  where
    at_front : Contains xs name ⊎ Contains ys name → Contains (xs ++ y ∷ ys) name
    at_front (inl before) = Contains-append_left xs (y ∷ ys) name before
    at_front (inr later) =
        Contains-append_right xs (y ∷ ys) name (Contains-append_right (y ∷ []) ys name later)

-- a use that is missing among names, each counted once
pub lacks_met : (words known : List (List ℕ)) (mine theirs : List (List ℕ)) {found said : Bool} → known ≡ met [] words → theirs ≡ mine
    → found ≡ said → IsTrue found ↔ IsMissing known mine → IsTrue said ↔ IsMissing words theirs
lacks_met words known mine theirs are same it means = (
  λ hit. subst (λ l. IsMissing words l) (sym same) (as_missing (means.0 (it ∙ hit))),
  λ is. sym it ∙ means.1 (missing_as (subst (λ l. IsMissing words l) same is)),
)
  where
    missing_as : IsMissing words mine → IsMissing known mine
    missing_as is = record {
      name = is.name;
      used = is.used;
      none = λ there. is.none (met_had [] words is.name (subst (λ l. Contains l is.name) are there));
    }

    as_missing : IsMissing known mine → IsMissing words mine
    as_missing is = record {
      name = is.name;
      used = is.used;
      none = λ there. is.none (subst (λ l. Contains l is.name) (sym are) (met_has [] words is.name there));
    }
