-- Lists that the passes for kind unknown go over.
use Rattle.std.proofs.Common.{◌≡◌, ℕ, zero, suc, ◌+◌, ◌<◌, ◌≤◌, ◌⊎◌, inl, inr, Bool, true, false, cond, List, [], ◌∷◌, ◌++◌, append_assoc, length, drop, get_or, refl, sym, ap, subst, ◌∙◌, Some, None, is_some, Contains, if◌then◌else◌, arith}
use Rattle.std.specs.List.{position_from, slice_get}
use Rattle.std.specs.Str.{bytes_eq}
use Rattle.std.proofs.lemmas.Iterator.Adapters.{position_from-zero}
use Rattle.std.proofs.lemmas.List.{append-nil, at_drop_more, drop_all}
use Rattle.std.proofs.lemmas.List.Elements.{Contains-append_left, Contains-append_right, Contains-append_cases}
use Rattle.std.proofs.lemmas.Option.{none-some}
use Rattle.std.proofs.lemmas.Slice.Eq.{bytes_eq-Decides}
use Rattle.ck_base.specs.Numbered.{AreApart, met, number_of}
use Rattle.ck_base.proofs.NameFound.{place_of, contained_at}
use Rattle.ck_base.proofs.NamesMet.{name_at_number, none_where_absent}
use Rattle.spec_text.proofs.Lists.{get_fits}
use Rattle.cfg_model.specs.declared.symbol.Sym.{Sym}
use Rattle.cfg_model.specs.declared.symbol.Sym.TheVariants.{T, N}
use Rattle.node_spec.specs.AstBuilds.{nonterminal_places}
use Rattle.node_spec.specs.within.AstUnknown.{names_nonterminal, NextPlace, no_place, a_place}
use Rattle.node_spec.proofs.AstLists.{get_in_front}

-- no nonterminal stands from one place up to another
pub record NonePassed (right : List Sym) (from i : ℕ) : Type 0 where
  pub same : nonterminal_places from (drop from right) ≡ nonterminal_places i (drop i right)

pub none_passed_yet : (right : List Sym) (from : ℕ) → NonePassed right from from
none_passed_yet right from = record { same = refl }

past_terminal : (i : ℕ) (symbol : Sym) (more : List Sym) → names_nonterminal symbol ≡ false
    → nonterminal_places i (symbol ∷ more) ≡ nonterminal_places (i + 1) more
past_terminal i (T t) more is = refl
past_terminal i (N n) more is = cc

at_nonterminal : (i : ℕ) (symbol : Sym) (more : List Sym) → names_nonterminal symbol ≡ true
    → nonterminal_places i (symbol ∷ more) ≡ i ∷ nonterminal_places (i + 1) more
at_nonterminal i (T t) more is = cc
at_nonterminal i (N n) more is = refl

module _ (right : List Sym) (from i : ℕ) (symbol d : Sym) (is : symbol ≡ get_or right i d)
    (less : i < length right) (so : NonePassed right from i) where
  places_here : nonterminal_places from (drop from right) ≡ nonterminal_places i (symbol ∷ drop (i + 1) right)
  places_here =
      so.same ∙ at_drop_more (nonterminal_places i) right i d less
      ∙ ap (λ s. nonterminal_places i (s ∷ drop (i + 1) right)) (sym is)

  pub terminal_passed : names_nonterminal symbol ≡ false → NonePassed right from (i + 1)
  terminal_passed not = record { same = places_here ∙ past_terminal i symbol (drop (i + 1) right) not }

  pub place_here : names_nonterminal symbol ≡ true → NextPlace right from (Some i)
  place_here its = a_place i less (places_here ∙ at_nonterminal i symbol (drop (i + 1) right) its)

pub nothing_passed : (right : List Sym) (from i : ℕ) → length right ≤ i → NonePassed right from i
    → NextPlace right from None
nothing_passed right from i end so = no_place (so.same ∙ ap (nonterminal_places i) (drop_all i right end))

-- a name stands at a place of what follows
pub get_behind : (xs ys : List (List ℕ)) (i : ℕ) (name : List ℕ) → slice_get ys i ≡ Some name
    → slice_get (xs ++ ys) (length xs + i) ≡ Some name
get_behind [] ys i name at = ap (slice_get ys) (omega arith) ∙ at
get_behind (x ∷ xs) ys i name at =
    ap (slice_get (x ∷ (xs ++ ys))) (let e : suc (length xs) + i ≡ suc (length xs + i) = omega arith in e)
    ∙ get_behind xs ys i name at

-- names that are apart are met as they stand
pub met_as_they_stand : (xs ys : List (List ℕ)) → AreApart (xs ++ ys) → met xs ys ≡ xs ++ ys
met_as_they_stand xs [] apart = sym (append-nil xs)
met_as_they_stand xs (y ∷ ys) apart =
    ap (λ o. met (if is_some o then xs else xs ++ y ∷ []) ys) (none_where_absent xs y absent)
    ∙ met_as_they_stand (xs ++ y ∷ []) ys (subst AreApart (sym (append_assoc xs (y ∷ []) ys)) apart)
    ∙ append_assoc xs (y ∷ []) ys
  where
    absent : Contains xs y → ⊥
    absent has =
        let at = place_of xs y has in
        let same = apart at.0 (length xs + 0) y (get_in_front xs (y ∷ ys) at.0 y at.1)
        (get_behind xs (y ∷ ys) 0 y refl) in
        let less = get_fits xs at.0 y at.1 in
        omega (arith, same, less)

-- a name stands first, or later
pub at_first : (x : List ℕ) (xs : List (List ℕ)) (name : List ℕ) → x ≡ name → Contains (x ∷ xs) name
at_first x xs name same = (zero, omega arith, same)

pub at_later : (x : List ℕ) (xs : List (List ℕ)) (name : List ℕ) → Contains xs name → Contains (x ∷ xs) name
at_later x xs name has = (suc has.0, (let less = has.1 in omega (arith, less)), has.2)

pub first_or_later : (x : List ℕ) (xs : List (List ℕ)) (name : List ℕ) → Contains (x ∷ xs) name
    → (x ≡ name) ⊎ Contains xs name
first_or_later x xs name (zero, less, is) = inl is
first_or_later x xs name (suc k, less, is) = inr (k, omega (arith, less), is)

-- what is met is there, and nothing else
pub met_has : (xs ys : List (List ℕ)) (name : List ℕ) → Contains (xs ++ ys) name → Contains (met xs ys) name
met_has xs [] name has = subst (λ l. Contains l name) (append-nil xs) has
met_has xs (y ∷ ys) name has =
    elim (number_of xs y) as (λ o. number_of xs y ≡ o
    → Contains (met (if is_some o then xs else xs ++ y ∷ []) ys) name) [
      | None ↦ λ none. met_has (xs ++ y ∷ []) ys name
          (subst (λ l. Contains l name) (sym (append_assoc xs (y ∷ []) ys)) has)
      | Some n ↦ λ found. met_has xs ys name (known n found (Contains-append_cases xs (y ∷ ys) name has))
    ] refl
  where
    known : (n : ℕ) → number_of xs y ≡ Some n → Contains xs name ⊎ Contains (y ∷ ys) name → Contains (xs ++ ys) name
    known n found (inl before) = Contains-append_left xs ys name before
    known n found (inr behind) = by (first_or_later y ys name behind)
      where
        by : (y ≡ name) ⊎ Contains ys name → Contains (xs ++ ys) name
        by (inl same) =
            Contains-append_left xs ys name
            (subst (Contains xs) same (contained_at xs y n (name_at_number xs y n found)))
        by (inr later) = Contains-append_right xs ys name later

pub met_had : (xs ys : List (List ℕ)) (name : List ℕ) → Contains (met xs ys) name → Contains (xs ++ ys) name
met_had xs [] name has = subst (λ l. Contains l name) (sym (append-nil xs)) has
met_had xs (y ∷ ys) name has =
    elim (is_some (number_of xs y)) as
    (λ b. Contains (met (if b then xs else xs ++ y ∷ []) ys) name → Contains (xs ++ y ∷ ys) name) [
      | true ↦ λ known. at_front (Contains-append_cases xs ys name (met_had xs ys name known))
      | false ↦ λ new. subst (λ l. Contains l name) (append_assoc xs (y ∷ []) ys) (met_had (xs ++ y ∷ []) ys name new)
    ] has
  where
    at_front : Contains xs name ⊎ Contains ys name → Contains (xs ++ y ∷ ys) name
    at_front (inl before) = Contains-append_left xs (y ∷ ys) name before
    at_front (inr later) =
        Contains-append_right xs (y ∷ ys) name (Contains-append_right (y ∷ []) ys name later)

-- names that stand among others, in their order
pub data Within : List (List ℕ) → List (List ℕ) → Type 0 where
  nothing : Within [] []
  left_out : (name : List ℕ) (xs ys : List (List ℕ)) → Within xs ys → Within xs (name ∷ ys)
  taken : (name : List ℕ) (xs ys : List (List ℕ)) → Within xs ys → Within (name ∷ xs) (name ∷ ys)

stands_within : (xs ys : List (List ℕ)) → Within xs ys → (i : ℕ) (name : List ℕ) → slice_get xs i ≡ Some name
    → (j : ℕ) × (slice_get ys j ≡ Some name)
stands_within _ _ nothing i name at = cc
stands_within _ _ (left_out first xs ys w) i name at = let there = stands_within xs ys w i name at in
    (suc there.0, there.1)
stands_within _ _ (taken first xs ys w) zero name at = (zero, at)
stands_within _ _ (taken first xs ys w) (suc i) name at =
    let there = stands_within xs ys w i name at in (suc there.0, there.1)

apart_behind : (name : List ℕ) (ys : List (List ℕ)) → AreApart (name ∷ ys) → AreApart ys
apart_behind name ys apart i j other at_i at_j =
    let same : suc i ≡ suc j = apart (suc i) (suc j) other at_i at_j in omega (arith, same)

not_behind : (name : List ℕ) (ys : List (List ℕ)) → AreApart (name ∷ ys) → (j : ℕ) → slice_get ys j ≡ Some name → ⊥
not_behind name ys apart j at = let same : zero ≡ suc j = apart zero (suc j) name refl at in omega (arith, same)

pub apart_within : (xs ys : List (List ℕ)) → Within xs ys → AreApart ys → AreApart xs
apart_within _ _ nothing apart = apart
apart_within _ _ (left_out first xs ys w) apart = apart_within xs ys w (apart_behind first ys apart)
apart_within _ _ (taken first xs ys w) apart = each (apart_within xs ys w (apart_behind first ys apart))
  where
    once : (j : ℕ) (name : List ℕ) → Some first ≡ Some name → slice_get xs j ≡ Some name → ⊥
    once j name is at =
        let same : name ≡ first = cc in
        let there = stands_within xs ys w j first (at ∙ ap (λ n. Some n) same) in
        not_behind first ys apart there.0 there.1

    each : AreApart xs → AreApart (first ∷ xs)
    each behind zero zero name at_i at_j = refl
    each behind zero (suc j) name at_i at_j = absurd (once j name at_i at_j)
    each behind (suc i) zero name at_i at_j = absurd (once i name at_j at_i)
    each behind (suc i) (suc j) name at_i at_j = ap suc (behind i j name at_i at_j)

pub contains_within : (xs ys : List (List ℕ)) → Within xs ys → (name : List ℕ) → Contains xs name → Contains ys name
contains_within xs ys w name has =
    let at = place_of xs name has in let there = stands_within xs ys w at.0 name at.1 in
    contained_at ys name there.0 there.1

-- a name without a number isn't there
none_from : (test : List ℕ → Bool) (names : List (List ℕ)) (k : ℕ) → position_from test k names ≡ None → (x : List ℕ)
    → test x ≡ true → (j : ℕ) → slice_get names j ≡ Some x → ⊥
none_from test [] k none x passes j at = cc
none_from test (name ∷ names) k none x passes j at =
    elim (test name) as (λ b. test name ≡ b → cond b (Some k) (position_from test (k + 1) names) ≡ None → ⊥) [
      | true ↦ λ is here. none-some k (sym here)
      | false ↦ λ is later. by is (none_from test names (k + 1) later x passes) j at
    ] refl none
  where
    by : test name ≡ false → ((j : ℕ) → slice_get names j ≡ Some x → ⊥) → (j : ℕ)
        → slice_get (name ∷ names) j ≡ Some x → ⊥
    by is more zero at = let same : name ≡ x = cc in let here : test name ≡ true = rw same passes in cc
    by is more (suc j) at = more j at

pub absent_where_no_number : (names : List (List ℕ)) (name : List ℕ) → number_of names name ≡ None
    → Contains names name → ⊥
absent_where_no_number names name none has =
    let at = place_of names name has in
    none_from (bytes_eq name) names 0 (sym (position_from-zero (bytes_eq name) names) ∙ none) name
    ((bytes_eq-Decides name name).1 refl) at.0 at.1
