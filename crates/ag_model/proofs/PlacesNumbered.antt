-- A place in a type has a number of its own.
use Rattle.std.proofs.Common.{◌≡◌, ℕ, zero, suc, ◌+◌, ◌*◌, ◌<◌, ◌≤◌, ◌⊎◌, inl, inr, List, [], ◌∷◌, length, Option, Some, None, refl, sym, ◌∙◌, subst, ap, arith}
use Rattle.std.specs.Prelude.{slice_get}
use Rattle.std.proofs.lemmas.Bool.{cases_eq, cases_lt}
use Rattle.std.proofs.lemmas.Option.{slice_get_within}
use Rattle.ck_base.proofs.Representing.{element_at}
use Rattle.ag_model.specs.declared.attribution.Place.{Place}
use Rattle.ag_model.specs.declared.attribution.Place.TheVariants.{Own, Child}
use Rattle.ag_model.specs.Attribution.{AttributeGrammar, Occurrence, itself, nth, at, FamilyAt, attributes_of, attributes_at, family_of, children_of}
use Rattle.ag_model.specs.Complete.{IsComplete, IsPlace}
use Rattle.ag_model.specs.Numbers.{size_of, sizes_before, first_number, number_of, place_count}
use Rattle.ag_model.proofs.TypesInRange.{few_children}
use Rattle.ag_model.specs.Ordered.{IsBefore, own_own, own_child, same_child, next_child}

none_is_some : {X : Type 0} (x : X) → None ≡ Some x → ⊥
none_is_some x e = cc

some_is : {X : Type 0} (x y : X) → Some x ≡ Some y → x ≡ y
some_is x y e = cc

module _ (g : AttributeGrammar) where
  pub none_before : (xs : List ℕ) → sizes_before g xs 0 ≡ 0
  none_before [] = refl
  none_before (x ∷ xs) = refl

  -- one family more
  pub one_more : (xs : List ℕ) (i x : ℕ) → slice_get xs i ≡ Some x → sizes_before g xs (i + 1) ≡ sizes_before g xs i + size_of g x
  one_more [] i x is = absurd (none_is_some x is)
  one_more (y ∷ xs) zero x is = step (ap (size_of g) (some_is y x is)) (none_before xs)
    where
      next : sizes_before g (y ∷ xs) (zero + 1) ≡ size_of g y + sizes_before g xs 0
      next = refl

      here : sizes_before g (y ∷ xs) zero ≡ 0
      here = refl

      step : size_of g y ≡ size_of g x → sizes_before g xs 0 ≡ 0 → sizes_before g (y ∷ xs) (zero + 1) ≡ sizes_before g (y ∷ xs) zero + size_of g x
      step same none = omega (arith, next, here)
  one_more (y ∷ xs) (suc i) x is = step (one_more xs i x is)
    where
      next : sizes_before g (y ∷ xs) (suc i + 1) ≡ size_of g y + sizes_before g xs (i + 1)
      next = let e : suc i + 1 ≡ suc (i + 1) = omega arith in rw e refl

      here : sizes_before g (y ∷ xs) (suc i) ≡ size_of g y + sizes_before g xs i
      here = refl

      step : sizes_before g xs (i + 1) ≡ sizes_before g xs i + size_of g x → sizes_before g (y ∷ xs) (suc i + 1) ≡ sizes_before g (y ∷ xs) (suc i) + size_of g x
      step ih = omega (arith, next, here)

  pub before_up : (xs : List ℕ) (i j : ℕ) → i ≤ j → sizes_before g xs i ≤ sizes_before g xs j
  before_up [] zero zero le = omega arith
  before_up [] zero (suc j) le = omega arith
  before_up [] (suc i) zero le = absurd (omega arith)
  before_up [] (suc i) (suc j) le = omega arith
  before_up (x ∷ xs) zero j le = let none = none_before (x ∷ xs) in omega arith
  before_up (x ∷ xs) (suc i) zero le = absurd (omega arith)
  before_up (x ∷ xs) (suc i) (suc j) le = step (before_up xs i j (omega arith))
    where
      here : sizes_before g (x ∷ xs) (suc i) ≡ size_of g x + sizes_before g xs i
      here = refl

      there : sizes_before g (x ∷ xs) (suc j) ≡ size_of g x + sizes_before g xs j
      there = refl

      step : sizes_before g xs i ≤ sizes_before g xs j → sizes_before g (x ∷ xs) (suc i) ≤ sizes_before g (x ∷ xs) (suc j)
      step ih = omega (arith, here, there)

  module _ (t : ℕ) where
    -- the number of an attribute at an occurrence
    pub number_at : (o : Occurrence) (a : ℕ) → number_of g t (at o a) ≡ first_number g t o + a
    number_at itself a = omega arith
    number_at (nth i) a = refl

    -- a place is an attribute at an occurrence of its family
    pub record At (u : Place) : Type 0 where
      pub occurrence : Occurrence
      pub family : ℕ
      pub attribute : ℕ
      pub stands : FamilyAt g t occurrence family
      pub below : attribute < size_of g family
      pub is : u ≡ at occurrence attribute

    pub place_at : (u : Place) → IsPlace g t u → At u
    place_at (Own a) (attribute, there) = record {
      occurrence = itself;
      family = family_of g t;
      attribute = a;
      stands = refl;
      below = slice_get_within (attributes_of g (family_of g t)) a attribute there;
      is = refl;
    }
    place_at (Child c a) (attribute, there) = go (slice_get (children_of g t) c) refl
      where
        go : (o : Option ℕ) → slice_get (children_of g t) c ≡ o → At (Child c a)
        go None none = absurd (none_is_some attribute (subst (λ o. slice_get (attributes_at g o) a ≡ Some attribute) none there))
        go (Some x) some = record {
          occurrence = nth c;
          family = x;
          attribute = a;
          stands = some;
          below = slice_get_within (attributes_of g x) a attribute (subst (λ o. slice_get (attributes_at g o) a ≡ Some attribute) some there);
          is = refl;
        }

    -- and the other way round
    pub is_place : (o : Occurrence) (x a : ℕ) → FamilyAt g t o x → a < size_of g x → IsPlace g t (at o a)
    is_place itself x a stands below = let (attribute, there) = element_at (attributes_of g x) a below in (attribute, subst (λ y. slice_get (attributes_of g y) a ≡ Some attribute) stands there)
    is_place (nth c) x a stands below =
        let (attribute, there) = element_at (attributes_of g x) a below in
        (attribute, subst (λ o. slice_get (attributes_at g o) a ≡ Some attribute) (sym stands) there)

    pub below_of_place : (o : Occurrence) (x a : ℕ) → FamilyAt g t o x → IsPlace g t (at o a) → a < size_of g x
    below_of_place itself x a stands (attribute, there) =
        slice_get_within (attributes_of g x) a attribute (subst (λ y. slice_get (attributes_of g y) a ≡ Some attribute) (sym stands) there)
    below_of_place (nth c) x a stands (attribute, there) =
        slice_get_within (attributes_of g x) a attribute (subst (λ o. slice_get (attributes_at g o) a ≡ Some attribute) stands there)

    -- the attributes of an occurrence end where those of the next one begin
    pub ends_within : (o : Occurrence) (x : ℕ) → FamilyAt g t o x → first_number g t o + size_of g x ≤ place_count g t
    ends_within itself x stands =
        let size = ap (size_of g) stands in
        let none = none_before (children_of g t) in
        let up = before_up (children_of g t) 0 (length (children_of g t)) (omega arith) in omega arith
    ends_within (nth c) x stands =
        let below = slice_get_within (children_of g t) c x stands in
        let more = one_more (children_of g t) c x stands in
        let up = before_up (children_of g t) (c + 1) (length (children_of g t)) (omega arith) in omega arith

    pub number_below : (u : Place) → IsPlace g t u → number_of g t u < place_count g t
    number_below u is = go (place_at u is)
      where
        go : At u → number_of g t u < place_count g t
        go p =
            let ends = ends_within p.occurrence p.family p.stands in
            let below = p.below in
            let number = number_at p.occurrence p.attribute in
            let same = ap (number_of g t) p.is in omega arith

    -- an earlier place has a lower number
    pub before_lower : (u w : Place) → IsPlace g t u → IsPlace g t w → IsBefore u w → number_of g t u < number_of g t w
    before_lower u w one two (own_own a b lt) = lt
    before_lower u w one two (own_child a c b) = let p = place_at (Own a) one in own_below one
      where
        own_below : IsPlace g t (Own a) → a < number_of g t (Child c b)
        own_below (attribute, there) = let lt = slice_get_within (attributes_of g (family_of g t)) a attribute there in omega arith
    before_lower u w one two (same_child c a b lt) = omega arith
    before_lower u w one two (next_child c a d b lt) = go one
      where
        with_family : (x : ℕ) → slice_get (children_of g t) c ≡ Some x → a < size_of g x → number_of g t (Child c a) < number_of g t (Child d b)
        with_family x stands below =
            let more = one_more (children_of g t) c x stands in
            let up = before_up (children_of g t) (c + 1) d (omega arith) in omega arith

        go : IsPlace g t (Child c a) → number_of g t (Child c a) < number_of g t (Child d b)
        go (attribute, there) = cases (slice_get (children_of g t) c) refl
          where
            cases : (o : Option ℕ) → slice_get (children_of g t) c ≡ o → number_of g t (Child c a) < number_of g t (Child d b)
            cases None none = absurd (none_is_some attribute (subst (λ o. slice_get (attributes_at g o) a ≡ Some attribute) none there))
            cases (Some x) some = with_family x some (slice_get_within (attributes_of g x) a attribute (subst (λ o. slice_get (attributes_at g o) a ≡ Some attribute) some there))

    -- of two places one is before the other, or they are one
    pub apart : (u w : Place) → (u ≡ w) ⊎ (IsBefore u w ⊎ IsBefore w u)
    apart (Own a) (Own b) = elim (cases_eq a b) [
      | inl same ↦ inl (ap Own same)
      | inr not ↦ elim (cases_lt a b) [ inl lt ↦ inr (inl (own_own a b lt)) | inr ge ↦ inr (inr (own_own b a (omega arith))) ]
    ]
    apart (Own a) (Child c b) = inr (inl (own_child a c b))
    apart (Child c a) (Own b) = inr (inr (own_child b c a))
    apart (Child c a) (Child d b) = elim (cases_eq c d) [
      | inl same ↦ elim (cases_eq a b) [
        | inl equal ↦ inl (ap (λ x. Child x a) same ∙ ap (Child d) equal)
        | inr not ↦ elim (cases_lt a b) [
          | inl lt ↦ inr (inl (subst (λ x. IsBefore (Child c a) (Child x b)) same (same_child c a b lt)))
          | inr ge ↦ inr (inr (subst (λ x. IsBefore (Child x b) (Child c a)) same (same_child c b a (omega arith))))
        ]
      ]
      | inr not ↦ elim (cases_lt c d) [ inl lt ↦ inr (inl (next_child c a d b lt)) | inr ge ↦ inr (inr (next_child d b c a (omega arith))) ]
    ]

    -- a number is that of one place
    pub one_place : (u w : Place) → IsPlace g t u → IsPlace g t w → number_of g t u ≡ number_of g t w → u ≡ w
    one_place u w one two same = elim (apart u w) [
      | inl is ↦ is
      | inr other ↦ elim other [
        | inl before ↦ let lower = before_lower u w one two before in absurd (omega arith)
        | inr behind ↦ let lower = before_lower w u two one behind in absurd (omega arith)
      ]
    ]

    -- a lower number is that of an earlier place
    pub lower_before : (u w : Place) → IsPlace g t u → IsPlace g t w → number_of g t u < number_of g t w → IsBefore u w
    lower_before u w one two lower = elim (apart u w) [
      | inl is ↦ let same = ap (number_of g t) is in absurd (omega arith)
      | inr other ↦ elim other [
        | inl before ↦ before
        | inr behind ↦ let below = before_lower w u two one behind in absurd (omega arith)
      ]
    ]

-- there are few places
pub few_before : (g : AttributeGrammar) → ((x : ℕ) → size_of g x ≤ 16) → (xs : List ℕ) (i : ℕ) → sizes_before g xs i ≤ 16 * length xs
few_before g few [] i = omega arith
few_before g few (x ∷ xs) zero = omega arith
few_before g few (x ∷ xs) (suc i) = step (few_before g few xs i) (few x)
  where
    step : sizes_before g xs i ≤ 16 * length xs → size_of g x ≤ 16 → size_of g x + sizes_before g xs i ≤ 16 * length (x ∷ xs)
    step ih size = omega arith

pub few_numbers : (g : AttributeGrammar) → IsComplete g → (t i : ℕ) → first_number g t (nth i) ≤ 144
few_numbers g complete t i =
    let own = complete.few_attributes (family_of g t) in
    let few = few_before g complete.few_attributes (children_of g t) i in
    let children = few_children g complete t in omega arith
