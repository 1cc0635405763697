-- Lists with one value of each sort: one after the other, under a map, and what they say of how many there are.
use Rattle.std.proofs.Common.{◌≡◌, ℕ, zero, suc, ◌+◌, ◌<◌, ◌≤◌, ◌⊎◌, List, [], ◌∷◌, ◌++◌, length, map, Some, slice_get, arith, refl, sym, ap, subst, ◌∙◌, inl, inr}
use Rattle.std.proofs.lemmas.Option.{none-some, same_Some, slice_get_within}
use Rattle.ck_base.specs.Counts.{HasMoreThan}
use Rattle.ck_base.specs.Represents.{Represents}
use Rattle.ck_base.proofs.Counting.{element_of_map, not_more}

pub element_of_both : {A : Type 0} (xs ys : List A) (a : A) (i : ℕ) → slice_get (xs ++ ys) i ≡ Some a
    → (slice_get xs i ≡ Some a) ⊎ ((j : ℕ) × (i ≡ length xs + j) × (slice_get ys j ≡ Some a))
element_of_both [] ys a i e = inr (i, omega arith, e)
element_of_both (x ∷ xs) ys a zero e = inl e
element_of_both (x ∷ xs) ys a (suc i) e = elim (element_of_both xs ys a i e) [ inl l ↦ inl l | inr r ↦ let (j, is, at) = r in inr (j, omega arith, at) ]

pub element_of_first : {A : Type 0} (xs ys : List A) (a : A) (i : ℕ) → slice_get xs i ≡ Some a → slice_get (xs ++ ys) i ≡ Some a
element_of_first [] ys a i e = absurd (none-some a e)
element_of_first (x ∷ xs) ys a zero e = e
element_of_first (x ∷ xs) ys a (suc i) e = element_of_first xs ys a i e

pub element_of_second : {A : Type 0} (xs ys : List A) (a : A) (i : ℕ) → slice_get ys i ≡ Some a → slice_get (xs ++ ys) (length xs + i) ≡ Some a
element_of_second [] ys a i e = subst (λ k. slice_get ys k ≡ Some a) (omega arith) e
element_of_second (x ∷ xs) ys a i e =
    let place : suc (length xs + i) ≡ suc (length xs) + i = omega arith in
    subst (λ k. slice_get (x ∷ xs ++ ys) k ≡ Some a) place (element_of_second xs ys a i e)

pub element_to_map : {A B : Type 0} (f : A → B) (xs : List A) (i : ℕ) (a : A) → slice_get xs i ≡ Some a → slice_get (map f xs) i ≡ Some (f a)
element_to_map f [] i a e = absurd (none-some a e)
element_to_map f (x ∷ xs) zero a e = ap (λ y. Some (f y)) (same_Some x a e)
element_to_map f (x ∷ xs) (suc i) a e = element_to_map f xs i a e

-- of two kinds, no value of the one alike to one of the other
pub represent_both : {A : Type 0} (P Q R : A → Type 0) (alike : A → A → Type 0) (xs ys : List A)
    → Represents P alike xs → Represents Q alike ys
    → ((a : A) → P a → R a) → ((a : A) → Q a → R a) → ((a : A) → R a → P a ⊎ Q a)
    → ((a b : A) → P a → Q b → alike a b → ⊥) → ((a b : A) → P a → Q b → alike b a → ⊥)
    → Represents R alike (xs ++ ys)
represent_both {A} P Q R alike xs ys first second p q r never never' = record {
  each = λ i a is. elim (element_of_both xs ys a i is) [ inl x ↦ p a (first.each i a x) | inr y ↦ q a (second.each y.0 a y.2) ];
  apart = λ i j a b at_i at_j same. apart_in i j a b (element_of_both xs ys a i at_i) (element_of_both xs ys b j at_j) same;
  all = λ a is. elim (r a is) [
    | inl h ↦ let (i, b, at, same) = first.all a h in (i, b, element_of_first xs ys b i at, same)
    | inr h ↦ let (i, b, at, same) = second.all a h in (length xs + i, b, element_of_second xs ys b i at, same)
  ];
}
  where
    apart_in : (i j : ℕ) (a b : A) → (slice_get xs i ≡ Some a) ⊎ ((k : ℕ) × (i ≡ length xs + k) × (slice_get ys k ≡ Some a))
        → (slice_get xs j ≡ Some b) ⊎ ((k : ℕ) × (j ≡ length xs + k) × (slice_get ys k ≡ Some b)) → alike a b → i ≡ j
    apart_in i j a b (inl x) (inl y) same = first.apart i j a b x y same
    apart_in i j a b (inl x) (inr y) same = absurd (never a b (first.each i a x) (second.each y.0 b y.2) same)
    apart_in i j a b (inr x) (inl y) same = absurd (never' b a (first.each j b y) (second.each x.0 a x.2) same)
    apart_in i j a b (inr x) (inr y) same = x.1 ∙ ap (λ k. length xs + k) (second.apart x.0 y.0 a b x.2 y.2 same) ∙ sym y.1

-- of a kind under a map
pub represent_map : {A B : Type 0} (f : A → B) (P : A → Type 0) (alike : A → A → Type 0) (Q : B → Type 0) (like : B → B → Type 0) (xs : List A)
    → ((a : A) → P a → Q (f a)) → ((b : B) → Q b → (a : A) × P a × (f a ≡ b))
    → ((a b : A) → P a → P b → alike a b → like (f a) (f b)) → ((a b : A) → P a → P b → like (f a) (f b) → alike a b)
    → Represents P alike xs → Represents Q like (map f xs)
represent_map f P alike Q like xs one back same same' before = record {
  each = λ i b is. let (a, at, e) = element_of_map f xs i b is in subst Q e (one a (before.each i a at));
  apart = λ i j b d at_i at_j h.
      let (a, is_a, e) = element_of_map f xs i b at_i in
      let (c, is_c, g) = element_of_map f xs j d at_j in
      before.apart i j a c is_a is_c (same' a c (before.each i a is_a) (before.each j c is_c) (subst (λ x. like x (f c)) (sym e) (subst (like b) (sym g) h)));
  all = λ b is.
      let (a, h, e) = back b is in
      let (i, c, at, l) = before.all a h in
      (i, f c, element_to_map f xs i c at, subst (λ x. like x (f c)) e (same a c h (before.each i c at) l));
}

-- so many there are at most
pub no_more_represented : {A : Type 0} (P : A → Type 0) (alike : A → A → Type 0) (xs : List A) → Represents P alike xs
    → ((a b : A) → alike a b → alike b a) → ((a b c : A) → alike a b → alike b c → alike a c) → HasMoreThan P alike (length xs) → ⊥
no_more_represented {A} P alike xs all back on more = not_more P alike (length xs) (λ a i. (b : A) × (slice_get xs i ≡ Some b) × alike a b)
    (λ a is. let (i, b, at, same) = all.all a is in (i, slice_get_within xs i b at, (b, at, same)))
    (λ a b t is_a is_b x y. on a x.0 b x.2 (back b x.0 (subst (alike b) (same_Some y.0 x.0 (sym y.1 ∙ x.1)) y.2)))
    more

-- and so many there are
pub more_represented : {A : Type 0} (P : A → Type 0) (alike : A → A → Type 0) (xs : List A) (n : ℕ) → Represents P alike xs → n < length xs → HasMoreThan P alike n
more_represented P alike xs n all many = record { some = xs; each = all.each; apart = all.apart; many = many }

-- more than a greater number is more than a smaller one
pub more_than_fewer : {A : Type 0} (P : A → Type 0) (alike : A → A → Type 0) (n m : ℕ) → m ≤ n → HasMoreThan P alike n → HasMoreThan P alike m
more_than_fewer P alike n m less more = record { some = more.some; each = more.each; apart = more.apart; many = let many = more.many in omega arith }

pub element_at : {A : Type 0} (xs : List A) (i : ℕ) → i < length xs → (a : A) × (slice_get xs i ≡ Some a)
element_at [] i within = absurd (omega arith)
element_at (x ∷ xs) zero within = (x, refl)
element_at (x ∷ xs) (suc i) within = element_at xs i (omega arith)
