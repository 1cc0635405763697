-- The sets of a family fit exactly where each place of them does.
use Rattle.std.proofs.Common.{◌≡◌, ℕ, zero, suc, ◌+◌, ◌-◌, ◌%◌, ◌<◌, ◌≤◌, inl, inr, Bool, List, [], ◌∷◌, length, Some, nat_eq, get_or, ◌↔◌, IsTrue, true, refl, sym, ◌∙◌, subst, ap, arith}
use Rattle.std.specs.Prelude.{slice_get, slice_index_or, Contains}
use Rattle.std.proofs.lemmas.Bool.{cases_lt}
use Rattle.std.proofs.lemmas.Option.{slice_get_within, slice_get-get_or, get_or_from_slice_get}
use Rattle.ck_base.proofs.Representing.{element_at}
use Rattle.ag_model.specs.Parts.{is_odd}
use Rattle.ag_model.specs.Plans.{InSet, SetsFit}
use Rattle.ag_model.specs.within.FitsByPlace.{PlaceFits, PartFits, FitsByPlace}

pub odd_is : (k : ℕ) → nat_eq (k % 2) 1 ≡ is_odd k
odd_is zero = refl
odd_is (suc zero) = refl
odd_is (suc (suc k)) = let e : suc (suc k) % 2 ≡ k % 2 = omega arith in ap (λ n. nat_eq n 1) e ∙ odd_is k

-- an element at its place
pub has_at : {X : Type 0} (xs : List X) (i : ℕ) (x : X) → slice_get xs i ≡ Some x → Contains xs x
has_at xs i x at = (i, slice_get_within xs i x at, get_or_from_slice_get xs i x x at)

pub at_of : {X : Type 0} (xs : List X) (x : X) → Contains xs x → (i : ℕ) × (slice_get xs i ≡ Some x)
at_of xs x (i, lt, is) = (i, slice_get-get_or xs i x lt ∙ ap Some is)

-- where an entry has something there is such an entry
pub entry_of : (sets : List (List ℕ)) (k i a : ℕ) → slice_get (slice_index_or sets k []) i ≡ Some a
    → (s : List ℕ) × (slice_get sets k ≡ Some s) × (slice_get s i ≡ Some a)
entry_of sets k i a at = elim (cases_lt k (length sets)) [
  | inl lt ↦
      let (s, is) = element_at sets k lt in
      (s, is, subst (λ xs. slice_get xs i ≡ Some a) (get_or_from_slice_get sets k s [] is) at)
  | inr ge ↦ absurd (none_past sets k ge at)
]
  where
    none_past : (xs : List (List ℕ)) (k : ℕ) → length xs ≤ k → slice_get (slice_index_or xs k []) i ≡ Some a → ⊥
    none_past [] k le is = let none = slice_get_within [] i a is in omega (arith, none)
    none_past (x ∷ xs) zero le is = omega (arith, le)
    none_past (x ∷ xs) (suc k) le is = none_past xs k (omega (arith, le)) is

pub entry_at : (sets : List (List ℕ)) (k i a : ℕ) (s : List ℕ) → slice_get sets k ≡ Some s → slice_get s i ≡ Some a
    → slice_get (slice_index_or sets k []) i ≡ Some a
entry_at sets k i a s is at = subst (λ xs. slice_get xs i ≡ Some a) (sym (get_or_from_slice_get sets k s [] is)) at

in_set : (sets : List (List ℕ)) (k a : ℕ) (s : List ℕ) → slice_get sets k ≡ Some s → Contains s a → InSet sets (suc k) a
in_set sets k a s is has = let same : k ≡ suc k - 1 = omega arith in (s, subst (λ n. slice_get sets n ≡ Some s) same is, has)

module _ (kinds : List Bool) (sets : List (List ℕ)) where
  pub by_place : SetsFit kinds sets → FitsByPlace kinds sets
  by_place fits = record { each = each; parts = parts }
    where
      each : (a : ℕ) → a < length kinds → (l : ℕ) × (l < length sets) × Contains (slice_index_or sets l []) a
      each a lt =
          let (k, some, (s, is, has)) = fits.each a lt in
          (k - 1, slice_get_within sets (k - 1) s is, subst (λ xs. Contains xs a) (sym (get_or_from_slice_get sets (k - 1) s [] is)) has)

      parts : (k : ℕ) → k < length sets → PartFits kinds sets k
      parts k lt i a at =
          let (s, is, at_s) = entry_of sets k i a at in
          record {
            kind = fits.kind (suc k) a (omega arith) (in_set sets k a s is (has_at s i a at_s));
            no_set_before = λ l below has.
                let (j, at_j) = at_of (slice_index_or sets l []) a has in
                let (t, is_t, at_t) = entry_of sets l j a at_j in
                let same = (fits.once k l i j a s t is at_s is_t at_t).0 in
                omega (arith, same, below);
            no_place_before = λ j below at_j.
                let (t, is_t, at_t) = entry_of sets k j a at_j in
                let same = (fits.once k k i j a s t is at_s is_t at_t).1 in
                omega (arith, same, below);
          }

  pub of_place : FitsByPlace kinds sets → SetsFit kinds sets
  of_place fits = record { each = each; once = once; kind = kind }
    where
      place : (k i a : ℕ) (s : List ℕ) → slice_get sets k ≡ Some s → slice_get s i ≡ Some a → PlaceFits kinds sets k i a
      place k i a s is at = fits.parts k (slice_get_within sets k s is) i a (entry_at sets k i a s is at)

      each : (a : ℕ) → a < length kinds → (k : ℕ) × (0 < k) × InSet sets k a
      each a lt =
          let (l, below, has) = fits.each a lt in
          let (s, is) = element_at sets l below in
          (suc l, omega arith, in_set sets l a s is (subst (λ xs. Contains xs a) (get_or_from_slice_get sets l s [] is) has))

      once : (k l i j a : ℕ) (s t : List ℕ) → slice_get sets k ≡ Some s → slice_get s i ≡ Some a
          → slice_get sets l ≡ Some t → slice_get t j ≡ Some a → (k ≡ l) × (i ≡ j)
      once k l i j a s t is at is_t at_t = elim (cases_lt k l) [
        | inl lt ↦ absurd ((place l j a t is_t at_t).no_set_before k lt (has_at (slice_index_or sets k []) i a (entry_at sets k i a s is at)))
        | inr ge ↦ elim (cases_lt l k) [
          | inl gt ↦ absurd ((place k i a s is at).no_set_before l gt (has_at (slice_index_or sets l []) j a (entry_at sets l j a t is_t at_t)))
          | inr le ↦ let same : k ≡ l = omega (arith, ge, le) in (same, in_one k l i j a s t is at is_t at_t same)
        ]
      ]
        where
          in_one : (k l i j a : ℕ) (s t : List ℕ) → slice_get sets k ≡ Some s → slice_get s i ≡ Some a
              → slice_get sets l ≡ Some t → slice_get t j ≡ Some a → k ≡ l → i ≡ j
          in_one k l i j a s t is at is_t at_t same = elim (cases_lt i j) [
            | inl lt ↦ absurd ((place l j a t is_t at_t).no_place_before i lt (subst (λ n. slice_get (slice_index_or sets n []) i ≡ Some a) same (entry_at sets k i a s is at)))
            | inr ge ↦ elim (cases_lt j i) [
              | inl gt ↦ absurd ((place k i a s is at).no_place_before j gt (subst (λ n. slice_get (slice_index_or sets n []) j ≡ Some a) (sym same) (entry_at sets l j a t is_t at_t)))
              | inr le ↦ omega (arith, ge, le)
            ]
          ]

      kind : (k a : ℕ) → 0 < k → InSet sets k a → slice_get kinds a ≡ Some (is_odd k)
      kind k a some (s, is, has) =
          let (i, at) = at_of s a has in
          let same : suc (k - 1) ≡ k = omega (arith, some) in
          subst (λ n. slice_get kinds a ≡ Some (is_odd n)) same (place (k - 1) i a s is at).kind

-- the places of a set, one after the other
module _ (kinds : List Bool) (sets : List (List ℕ)) (k i : ℕ) (part : List ℕ) where
  pub one_more_place : (b : Bool) → part ≡ slice_index_or sets k [] → i < length part
      → ((j a : ℕ) → j < i → slice_get (slice_index_or sets k []) j ≡ Some a → PlaceFits kinds sets k j a)
      → IsTrue b ↔ PlaceFits kinds sets k i (get_or part i 0) → b ≡ true
      → (j a : ℕ) → j < i + 1 → slice_get (slice_index_or sets k []) j ≡ Some a → PlaceFits kinds sets k j a
  one_more_place b is within so fits holds j a lt at = elim (cases_lt j i) [
    | inl below ↦ so j a below at
    | inr ge ↦
        let same : i ≡ j = omega (arith, ge, lt) in
        let in_part : slice_get part i ≡ Some a = subst (λ n. slice_get part n ≡ Some a) (sym same) (subst (λ xs. slice_get xs j ≡ Some a) (sym is) at) in
        let value : get_or part i 0 ≡ a = get_or_from_slice_get part i a 0 in_part in
        subst (λ n. PlaceFits kinds sets k n a) same (subst (PlaceFits kinds sets k i) value (fits.0 holds))
  ]

  pub all_places : part ≡ slice_index_or sets k [] → length part ≤ i
      → ((j a : ℕ) → j < i → slice_get (slice_index_or sets k []) j ≡ Some a → PlaceFits kinds sets k j a)
      → IsTrue true ↔ PartFits kinds sets k
  all_places is past so = (
    (λ t j a at. so j a (let lt = slice_get_within part j a (subst (λ xs. slice_get xs j ≡ Some a) (sym is) at) in omega (arith, lt, past)) at),
    (λ all. refl),
  )
