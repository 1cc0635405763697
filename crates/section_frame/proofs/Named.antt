-- Names met line by line.
use Rattle.std.proofs.Common.{◌≡◌, ℕ, zero, suc, ◌+◌, ◌≤◌, ◌⊎◌, inl, inr, ◌↔◌, IsTrue, Bool, false, List, [], ◌∷◌, ◌++◌, length, take, map, refl, sym, ap, ◌∙◌, subst, Option, Some, None, IsNone, is_some, Contains, arith, length-append, append-nil, append_assoc}
use Rattle.std.specs.List.{slice_get}
use Rattle.ck_base.specs.Numbered.{met}
use Rattle.ck_base.proofs.NamesMet.{met_new, met-append, none_where_absent}
use Rattle.section_frame.specs.Declares.{Declared}
use Rattle.std.proofs.lemmas.List.{length-map}
use Rattle.spec_text.proofs.Lists.{take_step, take_all}
use Rattle.std.proofs.lemmas.List.Elements.{Contains-append_cases}
use Rattle.spec_text.proofs.Parting.{contains_at, some_at}
use Rattle.section_frame.specs.Passes.{as_seen, judged_by, numbered}
use Rattle.section_frame.specs.declared.pass.Numbered.{Numbered}
use Rattle.section_frame.proofs.Passing.{seen_rows}
use Rattle.section_frame.specs.Words.{IsAgain, IsAmong, Meets, again, fresh, name_before, names_by}

-- whether a name is there
pub is_there : (names : List (List ℕ)) (name : List ℕ) (found : Option ℕ)
    → ((n : ℕ) → (found ≡ Some n) ↔ (slice_get names n ≡ Some name))
    → (IsNone found ↔ (Contains names name → ⊥)) → IsTrue (is_some found) ↔ Contains names name
is_there names name None at absent = (λ is. cc, λ there. absurd (absent.0 refl there))
is_there names name (Some n) at absent = (λ is. contains_at names n name ((at n).0 refl), λ there. refl)

pub is_fresh : (old new : List (List ℕ)) (name : List ℕ) (known : Bool) → IsTrue known ↔ Contains old name
    → known ≡ false → new ≡ met old (name ∷ []) → Meets old new name false
is_fresh old new name known means unknown are =
    fresh absent (are ∙ met_new old name (none_where_absent old name absent))
  where
    absent : Contains old name → ⊥
    absent there = let e = means.1 there in cc

module _ {S : Type 0} (name : S → Option (List ℕ)) where
  before_append : (o : Option (List ℕ)) (a b : List (List ℕ)) → name_before o (a ++ b) ≡ name_before o a ++ b
  before_append None a b = refl
  before_append (Some n) a b = refl

  names_by-append : (xs ys : List (Declared S)) → names_by name (xs ++ ys) ≡ names_by name xs ++ names_by name ys
  names_by-append [] ys = refl
  names_by-append (d ∷ xs) ys =
      ap (name_before (name d.said)) (names_by-append xs ys) ∙ before_append (name d.said) (names_by name xs) (names_by name ys)

  pub next_names : (ds : List (Declared S)) (i : ℕ) (d : Declared S) → slice_get ds i ≡ Some d
      → names_by name (take (i + 1) ds) ≡ names_by name (take i ds) ++ name_before (name d.said) []
  next_names ds i d at = ap (names_by name) (take_step ds i d at) ∙ names_by-append (take i ds) (d ∷ [])

  -- names of which none is there before are met as they stand
  module _ (first : List (List ℕ)) (ds : List (Declared S))
      (unseen : (i : ℕ) (d : Declared S) → slice_get ds i ≡ Some d → IsAgain name ds i d.said → ⊥)
      (apart : (i : ℕ) (d : Declared S) → slice_get ds i ≡ Some d → IsAmong name first d.said → ⊥) where
    with_name : (names : List (List ℕ)) (o : Option (List ℕ)) → ((n : List ℕ) → o ≡ Some n → Contains names n → ⊥)
        → met names (name_before o []) ≡ names ++ name_before o []
    with_name names None absent = sym (append-nil names)
    with_name names (Some n) absent = met_new names n (none_where_absent names n (absent n refl))

    abbrev AsTheyStand : ℕ → Type 0
    AsTheyStand i = met first (names_by name (take i ds)) ≡ first ++ names_by name (take i ds)

    one_more_stands : (i : ℕ) (d : Declared S) → slice_get ds i ≡ Some d → AsTheyStand i → AsTheyStand (i + 1)
    one_more_stands i d at so =
        ap (met first) (next_names ds i d at) ∙ met-append first (names_by name (take i ds)) (name_before (name d.said) [])
        ∙ ap (λ l. met l (name_before (name d.said) [])) so
        ∙ with_name (first ++ names_by name (take i ds)) (name d.said)
        (λ n is there. by n is (Contains-append_cases first (names_by name (take i ds)) n there))
        ∙ append_assoc first (names_by name (take i ds)) (name_before (name d.said) [])
        ∙ ap (λ l. first ++ l) (sym (next_names ds i d at))
      where
        by : (n : List ℕ) → name d.said ≡ Some n → Contains first n ⊎ Contains (names_by name (take i ds)) n → ⊥
        by n is (inl there) = apart i d at (record { called = n; is = is; among = there })
        by n is (inr there) = unseen i d at (record { called = n; is = is; before = there })

    stand_so_far : (i : ℕ) → i ≤ length ds → AsTheyStand i
    stand_so_far zero less = nothing ds
      where
        nothing : (ds : List (Declared S)) → met first (names_by name (take 0 ds)) ≡ first ++ names_by name (take 0 ds)
        nothing [] = sym (append-nil first)
        nothing (d ∷ ds) = sym (append-nil first)
    stand_so_far (suc i) less =
        let there = some_at ds i (omega (arith, less)) in
        let next : i + 1 ≡ suc i = omega arith in
        subst AsTheyStand next (one_more_stands i there.0 there.1 (stand_so_far i (omega (arith, less))))

    pub as_they_stand : met first (names_by name ds) ≡ first ++ names_by name ds
    as_they_stand =
        subst (λ l. met first (names_by name l) ≡ first ++ names_by name l) (take_all ds (length ds) refl)
        (stand_so_far (length ds) (omega arith))

  module _ (ds : List (Declared S)) (i : ℕ) (d : Declared S) (old new : List (List ℕ)) (are : old ≡ names_by name (take i ds))
      (at : slice_get ds i ≡ Some d) where
    pub none_more_named : name d.said ≡ None → old ≡ names_by name (take (i + 1) ds)
    none_more_named is =
        are ∙ sym (next_names ds i d at ∙ ap (λ o. names_by name (take i ds) ++ name_before o []) is
        ∙ append-nil (names_by name (take i ds)))

    module _ (n : List ℕ) (is : name d.said ≡ Some n) where
      before_of : IsAgain name ds i d.said → Contains old n
      before_of f =
          let same : f.called ≡ n = (let a = sym f.is ∙ is in cc) in
          subst (λ l. Contains l n) (sym are) (subst (Contains (names_by name (take i ds))) same f.before)

      pub means_again : (found : Bool) → Meets old new n found → IsTrue found ↔ IsAgain name ds i d.said
      means_again _ (again there) = (
        λ hit. record { called = n; is = is; before = subst (λ l. Contains l n) are there },
        λ f. refl,
      )
      means_again _ (fresh absent added) = (λ hit. cc, λ f. absurd (absent (before_of f)))

      pub one_more_named : (found : Bool) → found ≡ false → Meets old new n found → length old ≤ i
          → (new ≡ names_by name (take (i + 1) ds)) × (length new ≤ i + 1)
      one_more_named _ missed (again there) few = cc
      one_more_named _ missed (fresh absent added) few = (
        added ∙ ap (λ l. l ++ n ∷ []) are
            ∙ sym (next_names ds i d at ∙ ap (λ o. names_by name (take i ds) ++ name_before o []) is),
        rw added (let long = length-append old (n ∷ []) in omega (arith, long, few)),
      )

-- where each line has a name
pub names_by_some : {S : Type 0} (f : S → List ℕ) (ds : List (Declared S)) → names_by (λ said. Some (f said)) ds ≡ map (λ d. f d.said) ds
names_by_some f [] = refl
names_by_some f (d ∷ ds) = ap (λ l. f d.said ∷ l) (names_by_some f ds)

-- the names of all lines
pub all_named : {T S : Type 0} (seen : T → S) (name : S → Option (List ℕ)) (list : List (Numbered T)) (names : List (List ℕ))
    → names ≡ names_by name (take (length (map numbered list)) (map (as_seen seen) (map numbered list)))
    → names ≡ names_by name (map (judged_by seen) list)
all_named seen name list names are =
    are ∙ ap (names_by name) (take_all (map (as_seen seen) (map numbered list)) (length (map numbered list)) (sym (length-map (map numbered list) (as_seen seen)))
    ∙ seen_rows seen list)
