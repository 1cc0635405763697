-- What a look-up in a list of numbered values finds, and what an insertion does.
use Rattle.std.proofs.Common.{◌≡◌, ℕ, suc, zero, ◌+◌, ◌^◌, ◌<◌, ◌⊎◌, ◌↔◌, ◌&&◌, Bool, true, false, true≢false, if◌then◌else◌, inl, inr, refl, sym, ap, ap₂, ◌∙◌, arith, List, [], ◌∷◌, ◌++◌, length, map, get_or, Option, Some, None, Contains, slice_get, position, length-append, eqb}
use Rattle.std.specs.List.{position_or_len, list_any, All}
use Rattle.std.proofs.lemmas.Bool.{lt-ltb, false_from_ne_true, eqb-true, eq-eqb}
use Rattle.std.proofs.lemmas.List.{length-map, map-append, get_or_default}
use Rattle.std.proofs.lemmas.List.Folds.{list_any_none}
use Rattle.std.proofs.lemmas.List.Quantifiers.{position-Some}
use Rattle.std.proofs.lemmas.List.Sums.{position_or_len_is}
use Rattle.std.proofs.lemmas.Option.{none-some, same_Some, slice_get-get_or, slice_get_within, get_or_from_slice_get}
use Rattle.lalr_look.specs.within.Numbered.{AreApart, AreNumbered, Interns, added}

-- a test on what is seen of the values
pub position_or_len-seen : {K X : Type 0} (seen : K → X) (test : X → Bool) (raw : List K)
    → position_or_len (λ k. test (seen k)) raw ≡ position_or_len test (map seen raw)
position_or_len-seen seen test [] = refl
position_or_len-seen seen test (v ∷ vs) = rw (position_or_len-seen seen test vs)

pub position-seen : {K X : Type 0} (seen : K → X) (test : X → Bool) (raw : List K)
    → position (λ k. test (seen k)) raw ≡ position test (map seen raw)
position-seen seen test vs = rw (position_or_len-seen seen test vs, length-map vs seen)

pub list_any-seen : {K X : Type 0} (seen : K → X) (test : X → Bool) (raw : List K)
    → list_any (λ k. test (seen k)) raw ≡ list_any test (map seen raw)
list_any-seen seen test [] = refl
list_any-seen seen test (v ∷ vs) = rw (list_any-seen seen test vs)

-- a value of a list with one more at its end is one of the list, or that one
pub value_of_longer : {X : Type 0} (xs : List X) (last x : X) (i : ℕ) → slice_get (xs ++ (last ∷ [])) i ≡ Some x
    → (slice_get xs i ≡ Some x) ⊎ ((i ≡ length xs) × (last ≡ x))
value_of_longer [] last x zero e = inr (refl, same_Some last x e)
value_of_longer [] last x (suc i) e = absurd (none-some x e)
value_of_longer (y ∷ ys) last x zero e = inl e
value_of_longer (y ∷ ys) last x (suc i) e = elim (value_of_longer ys last x i e) [ inl l ↦ inl l | inr r ↦ inr (ap suc r.0, r.1) ]

module _ {X : Type 0} (eq : X → X → Bool) (decides : (a b : X) → (eq a b ≡ true) ↔ (a ≡ b)) (xs : List X) (x : X) where
  there_where_found : (n : ℕ) → position (eq x) xs ≡ Some n → slice_get xs n ≡ Some x
  there_where_found n found =
      let first = position-Some (eq x) xs n x found in
      slice_get-get_or xs n x first.0 ∙ ap Some (sym ((decides x (get_or xs n x)).0 first.1))

  no_earlier : AreApart xs → (n k : ℕ) → slice_get xs n ≡ Some x → k < n → eq x (get_or xs k x) ≡ false
  no_earlier apart n k there earlier = false_from_ne_true _ (λ equal.
      let within = slice_get_within xs n x there in
      let here : slice_get xs k ≡ Some x =
      slice_get-get_or xs k x (omega (arith, within, earlier)) ∙ ap Some (sym ((decides x (get_or xs k x)).0 equal)) in
      let same = apart k n x here there in
      omega (arith, same, earlier))

  pub found_where_there : AreApart xs → (n : ℕ) → slice_get xs n ≡ Some x → position (eq x) xs ≡ Some n
  found_where_there apart n there =
      let within = slice_get_within xs n x there in
      let is = get_or_from_slice_get xs n x x there in
      let here : eq x (get_or xs n x) ≡ true = rw is ((decides x x).1 refl) in
      let earlier : (k : ℕ) → k < n → eq x (get_or xs k x) ≡ false = λ k lt. no_earlier apart n k there lt in
      let place = position_or_len_is (eq x) xs n x (omega (arith, within)) earlier (λ lt. here) in
      rw (place, lt-ltb n (length xs) within)

  -- what a look-up answers
  pub finds : AreApart xs → (answer : Option ℕ) → answer ≡ position (eq x) xs → (n : ℕ) → (answer ≡ Some n) ↔ (slice_get xs n ≡ Some x)
  finds apart answer is n = (λ at. there_where_found n (sym is ∙ at), λ there. is ∙ found_where_there apart n there)

  pub absent_where_none : AreApart xs → position (eq x) xs ≡ None → Contains xs x → ⊥
  absent_where_none apart none (i, low, is) =
      none-some i (sym none ∙ found_where_there apart i (slice_get-get_or xs i x low ∙ ap Some is))

  module _ (absent : Contains xs x → ⊥) where
    none_passes : All (λ other. eq x other ≡ false) xs
    none_passes k d within = false_from_ne_true _ (λ equal.
        absent (k, within, get_or_default xs k x d within ∙ sym ((decides x (get_or xs k d)).0 equal)))

    pub place_is_next : position_or_len (eq x) xs ≡ length xs
    place_is_next = position_or_len_is (eq x) xs (length xs) x (omega arith) (λ k lt. none_passes k x lt) (λ lt. absurd (omega (arith, lt)))

    pub apart_longer : AreApart xs → AreApart (xs ++ (x ∷ []))
    apart_longer apart i j other at_i at_j = go (value_of_longer xs x other i at_i) (value_of_longer xs x other j at_j)
      where
        there : (k : ℕ) → slice_get xs k ≡ Some other → x ≡ other → ⊥
        there k at same = absent (k, slice_get_within xs k other at, get_or_from_slice_get xs k other x at ∙ sym same)

        go : (slice_get xs i ≡ Some other) ⊎ ((i ≡ length xs) × (x ≡ other)) → (slice_get xs j ≡ Some other) ⊎ ((j ≡ length xs) × (x ≡ other)) → i ≡ j
        go (inl l) (inl m) = apart i j other l m
        go (inl l) (inr (e, same)) = absurd (there i l same)
        go (inr (e, same)) (inl m) = absurd (there j m same)
        go (inr (e, same)) (inr (f, also)) = e ∙ sym f

    pub numbered_longer : AreNumbered xs → length xs + 1 < 2 ^ 32 → AreNumbered (xs ++ (x ∷ []))
    numbered_longer numbered room =
        record { few = (let l = length-append xs (x ∷ []) in omega (arith, l, room)); apart = apart_longer numbered.apart }

-- what an insertion into a set does with a value that isn't there
module _ {K X : Type 0} (seen : K → X) (eq : X → X → Bool) (decides : (a b : X) → (eq a b ≡ true) ↔ (a ≡ b)) (old new : List K) (k : K)
    (absent : Contains (map seen old) (seen k) → ⊥)
    (inserted : new ≡ (if list_any (λ v. eq (seen k) (seen v)) old then old else old ++ (k ∷ []))) where
  pub seen_last : map seen new ≡ map seen old ++ (seen k ∷ [])
  seen_last =
      let none = list_any-seen seen (eq (seen k)) old ∙ list_any_none (eq (seen k)) (map seen old) (none_passes eq decides (map seen old) (seen k) absent) in
      ap (map seen) (inserted ∙ ap (λ b. if b then old else old ++ (k ∷ [])) none) ∙ map-append seen old (k ∷ [])

  pub insertion_interns : (n : ℕ) → n ≡ position_or_len (λ v. eq (seen k) (seen v)) old → Interns (map seen old) (map seen new) (seen k) n
  insertion_interns n place =
      added absent seen_last (place ∙ position_or_len-seen seen (eq (seen k)) old ∙ place_is_next eq decides (map seen old) (seen k) absent)

  pub insertion_numbered : AreNumbered (map seen old) → length (map seen old) + 1 < 2 ^ 32 → AreNumbered (map seen new)
  insertion_numbered numbered room = rw seen_last (numbered_longer eq decides (map seen old) (seen k) absent numbered room)

-- pairs of numbers are tested part by part
abbrev pub pair_eq : ℕ × ℕ → ℕ × ℕ → Bool
pair_eq a b = eqb a.0 b.0 && eqb a.1 b.1

pub pair_eq-decides : (a b : ℕ × ℕ) → (pair_eq a b ≡ true) ↔ (a ≡ b)
pair_eq-decides a b = (only, back)
  where
    both : (p q : Bool) → (p && q) ≡ true → (p ≡ true) × (q ≡ true)
    both true true e = (refl, refl)
    both true false e = absurd (true≢false (sym e))
    both false q e = absurd (true≢false (sym e))

    only : pair_eq a b ≡ true → a ≡ b
    only e =
        let (one, two) = both (eqb a.0 b.0) (eqb a.1 b.1) e in
        ap₂ (λ u v. (u, v)) (eqb-true a.0 b.0 one) (eqb-true a.1 b.1 two)

    back : a ≡ b → pair_eq a b ≡ true
    back e = ap₂ (λ u v. u && v) (eq-eqb a.0 b.0 (ap (λ p. p.0) e)) (eq-eqb a.1 b.1 (ap (λ p. p.1) e))
