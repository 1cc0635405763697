-- Steps fit exactly where each of them does, and what is asked of all of them holds.
use Rattle.std.proofs.Common.{◌≡◌, ℕ, zero, suc, ◌+◌, ◌-◌, ◌*◌, ◌<◌, ◌≤◌, inl, inr, Bool, true, false, List, [], ◌∷◌, length, map, Some, sym, ◌∙◌, subst, ap, arith, get_or, ◌↔◌, IsTrue}
use Rattle.std.specs.Prelude.{slice_get, slice_index_or, Contains}
use Rattle.std.proofs.lemmas.Bool.{cases_eq, cases_lt}
use Rattle.std.proofs.lemmas.Option.{same_Some, slice_get_within, slice_get-get_or, get_or_from_slice_get}
use Rattle.std.proofs.lemmas.List.{length-map}
use Rattle.ck_base.proofs.Representing.{element_at, element_to_map}
use Rattle.ag_model.specs.Attribution.{PureEquation, equation_of}
use Rattle.ag_model.specs.declared.attribution.Equation.{Equation}
use Rattle.ag_model.specs.Plans.{counted, is_leave, is_visit, visit_count, InSet, TakesIn, Gives, EvaluatedBefore, TypeFits}
use Rattle.ag_model.specs.within.StepFits.{StepFits, FitsBySteps}
use Rattle.ag_model.specs.declared.attribution.Place.{Place}
use Rattle.ag_model.specs.declared.attribution.Place.TheVariants.{Own, Child}
use Rattle.ag_model.specs.declared.plan.PlanStep.{PlanStep}
use Rattle.ag_model.specs.declared.plan.PlanStep.TheVariants.{Evaluate, Visit, Leave}

module _ (sets : List (List ℕ)) (below : ℕ → List (List ℕ)) (children : ℕ) (equations : List PureEquation) (steps : List PlanStep) where
  pub by_steps : TypeFits sets below children equations steps → FitsBySteps sets below children equations steps
  by_steps fits = record { visits = fits.visits; ends = fits.ends; some = fits.some; each = each; all = fits.all }
    where
      each : (i : ℕ) (st : PlanStep) → slice_get steps i ≡ Some st → StepFits sets below children equations steps i st
      each i (Evaluate e) at = (
        fits.known i e at,
        (λ j lt before. let same = fits.once j i e before at in omega arith),
        (λ q u there has. fits.after i e q u at there has),
      )
      each i (Visit c v) at = (fits.is_child i c v at, fits.in_order i c v at, (λ a takes. fits.before_visit i c v a at takes))
      each i Leave at = λ a gives. fits.before_leave i a at gives

  pub of_steps : FitsBySteps sets below children equations steps → TypeFits sets below children equations steps
  of_steps fits = record {
    visits = fits.visits;
    ends = fits.ends;
    some = fits.some;
    once = λ i j e at also. elim (cases_eq i j) [
      | inl same ↦ same
      | inr other ↦ elim (cases_lt i j) [
        | inl lt ↦ absurd ((fits.each j (Evaluate e) also).1 i lt at)
        | inr ge ↦ absurd ((fits.each i (Evaluate e) at).1 j (omega arith) also)
      ]
    ];
    known = λ i e at. (fits.each i (Evaluate e) at).0;
    after = λ i e q u at there has. (fits.each i (Evaluate e) at).2 q u there has;
    is_child = λ i c v at. (fits.each i (Visit c v) at).0;
    in_order = λ i c v at. (fits.each i (Visit c v) at).1;
    all = fits.all;
    before_visit = λ i c v a at takes. (fits.each i (Visit c v) at).2 a takes;
    before_leave = λ i a at gives. fits.each i Leave at a gives;
  }

-- a set by its place
pub in_part : (sets : List (List ℕ)) (k a : ℕ) → Contains (slice_index_or sets (k - 1) []) a → InSet sets k a
in_part sets k a has = elim (cases_lt (k - 1) (length sets)) [
  | inl lt ↦
      let (s, at) = element_at sets (k - 1) lt in
      (s, at, subst (λ xs. Contains xs a) (get_or_from_slice_get sets (k - 1) s [] at) has)
  | inr ge ↦ absurd (none_past sets (k - 1) ge has)
]
  where
    none_past : (xs : List (List ℕ)) (i : ℕ) → length xs ≤ i → Contains (slice_index_or xs i []) a → ⊥
    none_past [] i le (n, lt, is) = omega (arith, lt)
    none_past (x ∷ xs) zero le has = omega (arith, le)
    none_past (x ∷ xs) (suc i) le has = none_past xs i (omega (arith, le)) has

pub of_part : (sets : List (List ℕ)) (k a : ℕ) → InSet sets k a → Contains (slice_index_or sets (k - 1) []) a
of_part sets k a (s, at, has) = subst (λ xs. Contains xs a) (sym (get_or_from_slice_get sets (k - 1) s [] at)) has

-- the sets of a visit
pub given_is : (sets : List (List ℕ)) (v count : ℕ) (part : List ℕ) → count ≡ visit_count sets → 0 < v → v ≤ count
    → part ≡ slice_index_or sets (2 * (count - v)) [] → (a : ℕ) → Contains part a ↔ Gives sets v a
given_is sets v count part count_is some le is a =
    let place : 2 * (visit_count sets - v) + 1 - 1 ≡ 2 * (count - v) = (omega (arith, count_is)) in (
      (λ has. (
        some,
        omega (arith, count_is, le),
        in_part sets (2 * (visit_count sets - v) + 1) a
            (subst (λ i. Contains (slice_index_or sets i []) a) (sym place) (subst (λ xs. Contains xs a) is has)),
      )),
      (λ gives. subst (λ xs. Contains xs a) (sym is) (subst (λ i. Contains (slice_index_or sets i []) a) place (of_part sets (2 * (visit_count sets - v) + 1) a gives.2))),
    )

pub taken_is : (sets : List (List ℕ)) (v count : ℕ) (part : List ℕ) → count ≡ visit_count sets → 0 < v → v ≤ count
    → part ≡ slice_index_or sets (2 * (count - v) + 1) [] → (a : ℕ) → Contains part a ↔ TakesIn sets v a
taken_is sets v count part count_is some le is a =
    let place : 2 * (visit_count sets - v) + 2 - 1 ≡ 2 * (count - v) + 1 = (omega (arith, count_is)) in (
      (λ has. (
        some,
        omega (arith, count_is, le),
        in_part sets (2 * (visit_count sets - v) + 2) a
            (subst (λ i. Contains (slice_index_or sets i []) a) (sym place) (subst (λ xs. Contains xs a) is has)),
      )),
      (λ takes. subst (λ xs. Contains xs a) (sym is) (subst (λ i. Contains (slice_index_or sets i []) a) place (of_part sets (2 * (visit_count sets - v) + 2) a takes.2))),
    )

-- an equation that was read gives the place
pub gives_is : (equations : List Equation) (e : ℕ) (q : Equation) (place : Place) (b : Bool) → e < length equations → q ≡ get_or equations e q
    → IsTrue b ↔ (q.target ≡ place)
    → IsTrue b ↔ ((r : PureEquation) × (slice_get (map equation_of equations) e ≡ Some r) × (r.target ≡ place))
gives_is equations e q place b lt read is =
    let at : slice_get (map equation_of equations) e ≡ Some (equation_of q) =
    element_to_map equation_of equations e q (slice_get-get_or equations e q lt ∙ ap Some (sym read)) in (
      (λ yes. (equation_of q, at, is.0 yes)),
      (λ found. let same : Some found.0 ≡ Some (equation_of q) = sym found.1 ∙ at in
          let equal : found.0 ≡ equation_of q = cc in
          is.1 (sym (ap (λ (r : PureEquation). r.target) equal) ∙ found.2)),
    )

pub gives_none : (equations : List Equation) (e : ℕ) (place : Place) → length equations ≤ e
    → ((r : PureEquation) × (slice_get (map equation_of equations) e ≡ Some r) × (r.target ≡ place)) → ⊥
gives_none equations e place le found =
    let lt = slice_get_within (map equation_of equations) e found.0 found.1 in
    let long = length-map equations equation_of in
    omega arith

-- a step that is a visit is no other one
visit_of : PlanStep → ℕ
visit_of (Evaluate e) = 0
visit_of (Visit c v) = v
visit_of Leave = 0

pub gives_visit : (sets : List (List ℕ)) (st : PlanStep) (d w c a : ℕ) (part : List ℕ) (b : Bool) → st ≡ Visit d w → d ≡ c
    → ((a : ℕ) → Contains part a ↔ Gives sets w a) → (IsTrue b ↔ Contains part a)
    → IsTrue b ↔ ((v : ℕ) × (st ≡ Visit c v) × Gives sets v a)
unfolding visit_of
gives_visit sets st d w c a part b is same given_by has = (
  (λ yes. (w, is ∙ ap (λ n. Visit n w) same, (given_by a).0 (has.0 yes))),
  (λ found.
      let visit : found.0 ≡ w = ap visit_of (sym found.1 ∙ is) in
      has.1 ((given_by a).1 (subst (λ v. Gives sets v a) visit found.2))),
)

-- what is said of three lists is said of what they are
carried : {A B C : Type 0} (F : A → B → C → Type 0) (a a' : A) (b b' : B) (c c' : C) → a ≡ a' → b ≡ b' → c ≡ c' → F a b c → F a' b' c'
carried F a a' b b' c c' first second third f =
    subst (λ x. F x b' c') first (subst (λ x. F a x c') second (subst (λ x. F a b x) third f))

-- what a step that ends a visit asks
pub leaves_when : (sets own_sets : List (List ℕ)) (es own_es : List PureEquation) (steps own_steps : List PlanStep) (i n : ℕ) (part : List ℕ) (b : Bool)
    → sets ≡ own_sets → es ≡ own_es → steps ≡ own_steps → n ≡ counted is_leave steps i
    → ((a : ℕ) → Contains part a ↔ Gives sets (n + 1) a)
    → (IsTrue b ↔ ((a : ℕ) → Contains part a → EvaluatedBefore es steps i (Own a)))
    → IsTrue b ↔ ((a : ℕ) → Gives own_sets (counted is_leave own_steps i + 1) a → EvaluatedBefore own_es own_steps i (Own a))
leaves_when sets own_sets es own_es steps own_steps i n part b sets_are es_are steps_are count gives_part all =
    carried (λ xs qs ss. IsTrue b ↔ ((a : ℕ) → Gives xs (counted is_leave ss i + 1) a → EvaluatedBefore qs ss i (Own a)))
    sets own_sets es own_es steps own_steps sets_are es_are steps_are (
      (λ holds a gives. all.0 holds a ((gives_part a).1 (subst (λ m. Gives sets (m + 1) a) (sym count) gives))),
      (λ each. all.1 (λ a has. each a (subst (λ m. Gives sets (m + 1) a) count ((gives_part a).0 has)))),
    )

-- what a step that visits a child asks
pub visits_when : (sets own_sets : List (List ℕ)) (es own_es : List PureEquation) (steps own_steps : List PlanStep) (i c v n children : ℕ) (part : List ℕ) (b : Bool)
    → sets ≡ own_sets → es ≡ own_es → steps ≡ own_steps → c < children → v ≡ n + 1 → n ≡ counted (is_visit c) steps i
    → ((a : ℕ) → Contains part a ↔ TakesIn sets v a)
    → (IsTrue b ↔ ((a : ℕ) → Contains part a → EvaluatedBefore es steps i (Child c a)))
    → IsTrue b ↔ ((c < children) × (v ≡ counted (is_visit c) own_steps i + 1) × ((a : ℕ) → TakesIn own_sets v a → EvaluatedBefore own_es own_steps i (Child c a)))
visits_when sets own_sets es own_es steps own_steps i c v n children part b sets_are es_are steps_are child next count takes_part all =
    carried (λ xs qs ss. IsTrue b ↔ ((c < children) × (v ≡ counted (is_visit c) ss i + 1) × ((a : ℕ) → TakesIn xs v a → EvaluatedBefore qs ss i (Child c a))))
    sets own_sets es own_es steps own_steps sets_are es_are steps_are (
      (λ holds. (child, next ∙ ap (λ m. m + 1) count, (λ a takes. all.0 holds a ((takes_part a).1 takes)))),
      (λ fits. all.1 (λ a has. fits.2 a ((takes_part a).0 has))),
    )

-- what a step that evaluates an equation asks
pub evaluates_when : (es : List Equation) (own_es : List PureEquation) (steps own_steps : List PlanStep) (i e : ℕ) (q : Equation) (uses : List Place)
    (U : Place → Type 0) (w b : Bool) → map equation_of es ≡ own_es → steps ≡ own_steps → e < length es → q ≡ get_or es e q → uses ≡ q.uses.items
    → (IsTrue w ↔ ((j : ℕ) × (j < i) × (slice_get steps j ≡ Some (Evaluate e)))) → w ≡ false
    → (IsTrue b ↔ ((u : Place) → Contains uses u → U u))
    → IsTrue b ↔ ((e < length own_es) × ((j : ℕ) → j < i → slice_get own_steps j ≡ Some (Evaluate e) → ⊥)
    × ((r : PureEquation) (u : Place) → slice_get own_es e ≡ Some r → Contains r.uses u → U u))
evaluates_when es own_es steps own_steps i e q uses U w b es_are steps_are lt read uses_are was never all = (
  (λ holds. (
    (let many = ap length es_are in let long = length-map es equation_of in omega (arith, many, long, lt)),
    (λ j below at. not_both (sym never ∙ was.1 (j, below, subst (λ ss. slice_get ss j ≡ Some (Evaluate e)) (sym steps_are) at))),
    (λ r u there has. all.0 holds u (subst (λ us. Contains us u) (sym uses_are) (subst (λ (x : PureEquation). Contains x.uses u) (is_it r there) has))),
  )),
  (λ fits. all.1 (λ u has. fits.2 (equation_of q) u own_at (subst (λ us. Contains us u) uses_are has))),
)
  where
    not_both : false ≡ true → ⊥
    not_both x = cc

    own_at : slice_get own_es e ≡ Some (equation_of q)
    own_at = subst (λ qs. slice_get qs e ≡ Some (equation_of q)) es_are (element_to_map equation_of es e q (slice_get-get_or es e q lt ∙ ap Some (sym read)))

    is_it : (r : PureEquation) → slice_get own_es e ≡ Some r → r ≡ equation_of q
    is_it r there = same_Some r (equation_of q) (sym there ∙ own_at)

-- steps fit where each test of them holds
module _ (sets : List (List ℕ)) (below : ℕ → List (List ℕ)) (children : ℕ) (equations : List PureEquation) (steps : List PlanStep) where
  pub fits_when : (b : Bool) → counted is_leave steps (length steps) ≡ visit_count sets → slice_get steps (length steps - 1) ≡ Some Leave
      → ((e : ℕ) → e < length equations → (i : ℕ) × (slice_get steps i ≡ Some (Evaluate e)))
      → ((c : ℕ) → c < children → counted (is_visit c) steps (length steps) ≡ visit_count (below c))
      → (IsTrue b ↔ ((i : ℕ) (st : PlanStep) → slice_get steps i ≡ Some st → StepFits sets below children equations steps i st))
      → IsTrue b ↔ TypeFits sets below children equations steps
  fits_when b visits ends some all each = (
    (λ holds. of_steps sets below children equations steps (record { visits = visits; ends = ends; some = some; each = each.0 holds; all = all })),
    (λ fits. each.1 (by_steps sets below children equations steps fits).each),
  )
