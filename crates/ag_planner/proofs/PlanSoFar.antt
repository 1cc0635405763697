-- The steps of a plan are made one after the other, each allowed by those before it.
use Rattle.std.proofs.Common.{◌≡◌, ℕ, zero, suc, ◌+◌, ◌<◌, ◌≤◌, ◌⊎◌, inl, inr, Bool, List, [], ◌∷◌, ◌++◌, length, Some, None, refl, sym, ◌∙◌, subst, ap, arith}
use Rattle.std.specs.Prelude.{slice_get, Contains}
use Rattle.ag_model.specs.declared.attribution.Place.{Place}
use Rattle.ag_model.specs.declared.attribution.Place.TheVariants.{Own, Child}
use Rattle.ag_model.specs.Attribution.{PureEquation}
use Rattle.ag_model.specs.declared.plan.PlanStep.{PlanStep}
use Rattle.ag_model.specs.declared.plan.PlanStep.TheVariants.{Evaluate, Visit, Leave}
use Rattle.ag_model.specs.Plans.{is_leave, is_visit, counted, TakesIn, Gives, EvaluatedBefore, AtHand}
use Rattle.ag_planner.specs.within.Made.{SoFar}

-- a step at a place of a list with one more step
pub get_pushed : (ss : List PlanStep) (s : PlanStep) (i : ℕ) (r : PlanStep) → slice_get (ss ++ s ∷ []) i ≡ Some r
    → ((i < length ss) × (slice_get ss i ≡ Some r)) ⊎ ((i ≡ length ss) × (r ≡ s))
get_pushed [] s zero r is = let e : Some s ≡ Some r = is in inr (refl, cc)
get_pushed [] s (suc i) r is = let e : None ≡ Some r = is in cc
get_pushed (t ∷ ss) s zero r is = let e : Some t ≡ Some r = is in inl (omega arith, is)
get_pushed (t ∷ ss) s (suc i) r is = elim (get_pushed ss s i r is) [
  | inl old ↦ let lt = old.0 in inl (omega arith, old.1)
  | inr new ↦ inr (ap suc new.0, new.1)
]

pub old_stays : (ss : List PlanStep) (s : PlanStep) (i : ℕ) (r : PlanStep) → slice_get ss i ≡ Some r → slice_get (ss ++ s ∷ []) i ≡ Some r
old_stays [] s i r is = let e : None ≡ Some r = is in cc
old_stays (t ∷ ss) s zero r is = is
old_stays (t ∷ ss) s (suc i) r is = old_stays ss s i r is

pub new_stands : (ss : List PlanStep) (s : PlanStep) → slice_get (ss ++ s ∷ []) (length ss) ≡ Some s
new_stands [] s = refl
new_stands (t ∷ ss) s = new_stands ss s

pub counted_front : (p : PlanStep → Bool) (ss : List PlanStep) (s : PlanStep) (i : ℕ) → i ≤ length ss → counted p (ss ++ s ∷ []) i ≡ counted p ss i
counted_front p [] s zero le = refl
counted_front p [] s (suc i) le = absurd (omega arith)
counted_front p (t ∷ ss) s zero le = refl
counted_front p (t ∷ ss) s (suc i) le = let ih = counted_front p ss s i (omega arith) in omega arith

module _ (sets : List (List ℕ)) (child_sets : ℕ → List (List ℕ)) (children : ℕ) (equations : List PureEquation) where
  pub evaluated_pushed : (ss : List PlanStep) (s : PlanStep) (i : ℕ) (u : Place) → EvaluatedBefore equations ss i u → EvaluatedBefore equations (ss ++ s ∷ []) i u
  evaluated_pushed ss s i u (j, lt, ev) = (
    j,
    lt,
    record {
      number = ev.number;
      equation = ev.equation;
      is_step = old_stays ss s j (Evaluate ev.number) ev.is_step;
      is_there = ev.is_there;
      is_target = ev.is_target;
    },
  )

  pub at_hand_pushed : (ss : List PlanStep) (s : PlanStep) (i : ℕ) (u : Place) → i ≤ length ss → AtHand sets child_sets equations ss i u
      → AtHand sets child_sets equations (ss ++ s ∷ []) i u
  at_hand_pushed ss s i (Own a) le (inl before) = inl (evaluated_pushed ss s i (Own a) before)
  at_hand_pushed ss s i (Own a) le (inr (v, most, takes)) =
      let same = counted_front is_leave ss s i le in inr (v, omega arith, takes)
  at_hand_pushed ss s i (Child c a) le (inl before) = inl (evaluated_pushed ss s i (Child c a) before)
  at_hand_pushed ss s i (Child c a) le (inr (j, v, lt, is, gives)) = inr (j, v, lt, old_stays ss s j (Visit c v) is, gives)

  -- the step may come after these steps
  abbrev pub Allows : List PlanStep → PlanStep → Type 0
  Allows ss (Evaluate e) = (e < length equations) × ((j : ℕ) → slice_get ss j ≡ Some (Evaluate e) → ⊥)
      × ((q : PureEquation) (u : Place) → slice_get equations e ≡ Some q → Contains q.uses u → AtHand sets child_sets equations ss (length ss) u)
  Allows ss (Visit c v) = (c < children) × (v ≡ counted (is_visit c) ss (length ss) + 1)
      × ((a : ℕ) → TakesIn (child_sets c) v a → EvaluatedBefore equations ss (length ss) (Child c a))
  Allows ss Leave = (a : ℕ) → Gives sets (counted is_leave ss (length ss) + 1) a → EvaluatedBefore equations ss (length ss) (Own a)

  module _ (ss : List PlanStep) (so : SoFar sets child_sets children equations ss) (s : PlanStep) (may : Allows ss s) where
    allows_is : (r : PlanStep) → r ≡ s → Allows ss r
    allows_is r same = subst (Allows ss) (sym same) may

    pub pushed : SoFar sets child_sets children equations (ss ++ s ∷ [])
    pushed = record {
      once = λ i j e a b. elim (get_pushed ss s i (Evaluate e) a) [
        | inl x ↦ elim (get_pushed ss s j (Evaluate e) b) [
          | inl y ↦ so.once i j e x.1 y.1
          | inr y ↦ let m = allows_is (Evaluate e) y.1 in absurd (m.1 i x.1)
        ]
        | inr x ↦ elim (get_pushed ss s j (Evaluate e) b) [
          | inl y ↦ let m = allows_is (Evaluate e) x.1 in absurd (m.1 j y.1)
          | inr y ↦ x.0 ∙ sym y.0
        ]
      ];
      known = λ i e a. elim (get_pushed ss s i (Evaluate e) a) [
        | inl x ↦ so.known i e x.1
        | inr x ↦ let m = allows_is (Evaluate e) x.1 in m.0
      ];
      after = λ i e q u a there has. elim (get_pushed ss s i (Evaluate e) a) [
        | inl x ↦ at_hand_pushed ss s i u (let lt = x.0 in omega arith) (so.after i e q u x.1 there has)
        | inr x ↦ let m = allows_is (Evaluate e) x.1 in
            at_hand_pushed ss s i u (let e = x.0 in omega arith) (subst (λ k. AtHand sets child_sets equations ss k u) (sym x.0) (m.2 q u there has))
      ];
      is_child = λ i c v a. elim (get_pushed ss s i (Visit c v) a) [
        | inl x ↦ so.is_child i c v x.1
        | inr x ↦ let m = allows_is (Visit c v) x.1 in m.0
      ];
      in_order = λ i c v a. elim (get_pushed ss s i (Visit c v) a) [
        | inl x ↦ let was = so.in_order i c v x.1 in let same = counted_front (is_visit c) ss s i (let lt = x.0 in omega arith) in omega arith
        | inr x ↦
            let m = allows_is (Visit c v) x.1 in
            let was = m.1 in
            let place = x.0 in
            let same = counted_front (is_visit c) ss s i (omega arith) in
            let here : counted (is_visit c) ss i ≡ counted (is_visit c) ss (length ss) = ap (counted (is_visit c) ss) place in
            omega arith
      ];
      before_visit = λ i c v a is takes. elim (get_pushed ss s i (Visit c v) is) [
        | inl x ↦ evaluated_pushed ss s i (Child c a) (so.before_visit i c v a x.1 takes)
        | inr x ↦ let m = allows_is (Visit c v) x.1 in
            evaluated_pushed ss s i (Child c a) (subst (λ k. EvaluatedBefore equations ss k (Child c a)) (sym x.0) (m.2 a takes))
      ];
      before_leave = λ i a is gives. elim (get_pushed ss s i Leave is) [
        | inl x ↦
            let same = counted_front is_leave ss s i (let lt = x.0 in omega arith) in
            evaluated_pushed ss s i (Own a) (so.before_leave i a x.1 (subst (λ k. Gives sets (k + 1) a) same gives))
        | inr x ↦
            let m : (a : ℕ) → Gives sets (counted is_leave ss (length ss) + 1) a → EvaluatedBefore equations ss (length ss) (Own a) = allows_is Leave x.1 in
            let place = x.0 in
            let same = counted_front is_leave ss s i (omega arith) ∙ ap (counted is_leave ss) place in
            evaluated_pushed ss s i (Own a) (subst (λ k. EvaluatedBefore equations ss k (Own a)) (sym x.0) (m a (subst (λ k. Gives sets (k + 1) a) same gives)))
      ];
    }
