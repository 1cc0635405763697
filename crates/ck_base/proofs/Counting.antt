-- Lists made of one value for each number below a bound, and the pigeonhole principle on them.
use Rattle.std.proofs.Common.{◌≡◌, ℕ, zero, suc, ◌<◌, ◌≤◌, ◌⊎◌, true, false, List, [], ◌∷◌, ◌++◌, length, get_or, map, Some, slice_get, arith, refl, sym, ap, subst, ◌∙◌, inl, inr, length-append, eqb}
use Rattle.std.specs.List.{list_any}
use Rattle.std.proofs.lemmas.Bool.{cases_eq, false_from_ne_true, eqb-true}
use Rattle.std.proofs.lemmas.List.{length-map}
use Rattle.std.proofs.lemmas.Option.{none-some, same_Some, slice_get-get_or}
use Rattle.std.proofs.lemmas.Map.Keys.{IsDistinct-from_apart}
use Rattle.std.proofs.lemmas.Map.Steps.{length-le_from_distinct_below}
use Rattle.ck_base.specs.Counts.{HasMoreThan}

-- an element of a list with one more at its end is one of the list, or that one
pub element_of_longer : {A : Type 0} (xs : List A) (last x : A) (i : ℕ) → slice_get (xs ++ last ∷ []) i ≡ Some x
    → (slice_get xs i ≡ Some x) ⊎ ((i ≡ length xs) × (last ≡ x))
element_of_longer [] last x zero e = inr (refl, same_Some last x e)
element_of_longer [] last x (suc i) e = absurd (none-some x e)
element_of_longer (y ∷ ys) last x zero e = inl e
element_of_longer (y ∷ ys) last x (suc i) e = elim (element_of_longer ys last x i e) [ inl l ↦ inl l | inr r ↦ inr (ap suc r.0, r.1) ]

pub record Collected {A : Type 0} (Q : ℕ → A → Type 0) (n : ℕ) : Type 0 where
  pub list : List A
  pub count : length list ≡ n
  pub each : (i : ℕ) (a : A) → slice_get list i ≡ Some a → Q i a

-- what there is for each number below n makes a list
pub collect : {A : Type 0} (Q : ℕ → A → Type 0) (n : ℕ) → ((s : ℕ) → s < n → (a : A) × Q s a) → Collected Q n
collect Q zero make = record { list = []; count = refl; each = λ i a is. absurd (none-some a is) }
collect Q (suc n) make =
    let before = collect Q n (λ s below. make s (omega arith)) in
    let (last, holds) = make n (omega arith) in
    record {
      list = before.list ++ last ∷ [];
      count = omega (arith, length-append before.list (last ∷ []), before.count);
      each = λ i a is. elim (element_of_longer before.list last a i is) [
        | inl old ↦ before.each i a old
        | inr new ↦ subst (λ k. Q k a) (sym (new.0 ∙ before.count)) (subst (Q n) new.1 holds)
      ];
    }

-- numbers below n, no two of them equal, are at most n
pub few_apart : (xs : List ℕ) (n : ℕ) → ((i x : ℕ) → slice_get xs i ≡ Some x → x < n)
    → ((i j x : ℕ) → slice_get xs i ≡ Some x → slice_get xs j ≡ Some x → i ≡ j) → length xs ≤ n
few_apart xs n below apart = length-le_from_distinct_below xs n
    (IsDistinct-from_apart eqb xs (λ i j d less within. false_from_ne_true _ (λ same.
    let equal : get_or xs i d ≡ get_or xs j d = equal_of _ _ same in
    let k = apart i j (get_or xs j d) (slice_get-get_or xs i d (omega arith) ∙ ap Some equal) (slice_get-get_or xs j d within) in
    omega arith)))
    (λ q is_there. there xs below q is_there)
  where
    equal_of : (a b : ℕ) → eqb a b ≡ true → a ≡ b
    equal_of a b same = eqb-true a b same

    there : (xs : List ℕ) → ((i x : ℕ) → slice_get xs i ≡ Some x → x < n) → (q : ℕ) → list_any (eqb q) xs ≡ true → q < n
    there [] below q none = cc
    there (x ∷ xs) below q is = elim (cases_eq q x) [
      | inl same ↦ rw same (below 0 x refl)
      | inr other ↦ there xs (λ i y at. below (suc i) y at) q (rw (unequal q x other) at is)
    ]
      where
        unequal : (a b : ℕ) → (a ≡ b → ⊥) → eqb a b ≡ false
        unequal a b other = false_from_ne_true _ (λ same. other (equal_of a b same))

-- no more values than numbers below n, where values with the same number are alike
pub not_more : {A : Type 0} (is_one : A → Type 0) (alike : A → A → Type 0) (n : ℕ) (number : A → ℕ → Type 0)
    → ((a : A) → is_one a → (t : ℕ) × (t < n) × number a t)
    → ((a b : A) (t : ℕ) → is_one a → is_one b → number a t → number b t → alike a b)
    → HasMoreThan is_one alike n → ⊥
not_more {A} is_one alike n number numbered same more =
    let all = collect Q (length more.some) one in
    let few = few_apart all.list n (λ i t is. let (a, at_i, below, h) = all.each i t is in below)
    (λ i j t at_i at_j.
    let (a, is_a, below, h) = all.each i t at_i in
    let (b, is_b, less, g) = all.each j t at_j in
    more.apart i j a b is_a is_b (same a b t (more.each i a is_a) (more.each j b is_b) h g)) in
    let many = more.many in
    let count = all.count in
    omega arith
  where
    Q : ℕ → ℕ → Type 0
    Q i t = (a : A) × (slice_get more.some i ≡ Some a) × (t < n) × number a t

    one : (s : ℕ) → s < length more.some → (t : ℕ) × Q s t
    one s within =
        let (a, is) = element s within in
        let (t, below, h) = numbered a (more.each s a is) in
        (t, (a, is, below, h))
      where
        element : (s : ℕ) → s < length more.some → (a : A) × (slice_get more.some s ≡ Some a)
        element s within = of_list more.some s within
          where
            of_list : (xs : List A) (s : ℕ) → s < length xs → (a : A) × (slice_get xs s ≡ Some a)
            of_list [] s within = absurd (omega arith)
            of_list (x ∷ xs) zero within = (x, refl)
            of_list (x ∷ xs) (suc s) within = of_list xs s (omega arith)

-- an element of a mapped list comes from one of the list
pub element_of_map : {A B : Type 0} (f : A → B) (xs : List A) (i : ℕ) (b : B) → slice_get (map f xs) i ≡ Some b
    → (a : A) × (slice_get xs i ≡ Some a) × (f a ≡ b)
element_of_map f [] i b e = absurd (none-some b e)
element_of_map f (x ∷ xs) zero b e = (x, refl, same_Some (f x) b e)
element_of_map f (x ∷ xs) (suc i) b e = element_of_map f xs i b e

-- values of another kind that are as different
pub more_of_others : {A B : Type 0} (f : A → B) (is_one : A → Type 0) (alike : A → A → Type 0) (is_other : B → Type 0) (like : B → B → Type 0) (n : ℕ)
    → ((a : A) → is_one a → is_other (f a)) → ((a b : A) → is_one a → is_one b → like (f a) (f b) → alike a b)
    → HasMoreThan is_one alike n → HasMoreThan is_other like n
more_of_others f is_one alike is_other like n one same more = record {
  some = map f more.some;
  each = λ i b is. let (a, at_i, e) = element_of_map f more.some i b is in subst is_other e (one a (more.each i a at_i));
  apart = λ i j b d at_i at_j h.
      let (a, is_a, e) = element_of_map f more.some i b at_i in
      let (c, is_c, g) = element_of_map f more.some j d at_j in
      more.apart i j a c is_a is_c (same a c (more.each i a is_a) (more.each j c is_c) (subst (λ x. like x (f c)) (sym e) (subst (like b) (sym g) h)));
  many = let many = more.many in omega (arith, length-map more.some f);
}
