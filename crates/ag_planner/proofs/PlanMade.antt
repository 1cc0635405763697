-- A plan is made along an order of a type's places.
use Rattle.std.proofs.Common.{◌≡◌, ℕ, suc, ◌+◌, ◌-◌, ◌<◌, ◌≤◌, ◌⊎◌, inl, inr, Bool, List, [], ◌∷◌, ◌++◌, length, Some, None, refl, sym, ◌∙◌, subst, ap, arith}
use Rattle.std.specs.Prelude.{slice_get, Contains}
use Rattle.std.proofs.lemmas.Option.{slice_get_within, slice_get_cases}
use Rattle.ag_model.specs.declared.attribution.Place.{Place}
use Rattle.ag_model.specs.declared.attribution.Place.TheVariants.{Own, Child}
use Rattle.ag_model.specs.Attribution.{PureEquation}
use Rattle.ag_model.specs.declared.plan.PlanStep.{PlanStep}
use Rattle.ag_model.specs.declared.plan.PlanStep.TheVariants.{Evaluate, Visit, Leave}
use Rattle.ag_model.specs.Plans.{is_leave, is_visit, one_if, counted, visit_count, TakesIn, Gives, EvaluatedBefore, AtHand, TypeFits}
use Rattle.ag_model.proofs.Counted.{counted_at}
use Rattle.ag_planner.proofs.Turns.{is_visit_step}
use Rattle.ag_planner.specs.within.Made.{SoFar, IsMade}
use Rattle.ag_planner.proofs.PlanSoFar.{get_pushed, new_stands, evaluated_pushed, Allows, pushed}

-- the last step counts too
pub counted_push : (p : PlanStep → Bool) (ss : List PlanStep) (s : PlanStep) → counted p (ss ++ s ∷ []) (length (ss ++ s ∷ [])) ≡ counted p ss (length ss) + one_if (p s)
counted_push p [] s = omega arith
counted_push p (t ∷ ss) s = let ih = counted_push p ss s in omega arith

pub length_push : (ss : List PlanStep) (s : PlanStep) → length (ss ++ s ∷ []) ≡ suc (length ss)
length_push [] s = refl
length_push (t ∷ ss) s = ap suc (length_push ss s)

module _ (sets : List (List ℕ)) (child_sets : ℕ → List (List ℕ)) (children : ℕ) (equations : List PureEquation) (Before : Place → Place → Type 0) where
  -- where a place's value comes from: an equation of the type, the visit to the node, or a visit to a child
  pub data Origin : Place → Type 0 where
    made : (e : ℕ) (q : PureEquation) → slice_get equations e ≡ Some q → Origin q.target
    taken : (a v : ℕ) → TakesIn sets v a → Origin (Own a)
    given : (c a v : ℕ) → c < children → Gives (child_sets c) v a → Origin (Child c a)

  -- what the order has to respect
  pub record IsOrder : Type 0 where
    pub uses : (e : ℕ) (q : PureEquation) (u : Place) → slice_get equations e ≡ Some q → Contains q.uses u → Origin u × Before u q.target
    pub own_parts : (v w a b : ℕ) → TakesIn sets v a → Gives sets w b → w < v → Before (Own b) (Own a)
    pub child_parts : (c v w a b : ℕ) → c < children → Gives (child_sets c) v b → TakesIn (child_sets c) w a → w ≤ v → Before (Child c a) (Child c b)
    pub own_made : (v a : ℕ) → Gives sets v a → (e : ℕ) × (q : PureEquation) × (slice_get equations e ≡ Some q) × (q.target ≡ Own a)
    pub child_made : (c v a : ℕ) → c < children → TakesIn (child_sets c) v a → (e : ℕ) × (q : PureEquation) × (slice_get equations e ≡ Some q) × (q.target ≡ Child c a)
    pub one_target : (e f : ℕ) (q r : PureEquation) → slice_get equations e ≡ Some q → slice_get equations f ≡ Some r → q.target ≡ r.target → e ≡ f

  module _ (order : IsOrder) (Done : Place → Type 0) (ss : List PlanStep) (is : IsMade sets child_sets children equations Done ss) where
    -- what has its place done is at hand
    pub at_hand : (u : Place) → Origin u → Done u → AtHand sets child_sets equations ss (length ss) u
    at_hand u (made e q there) done = of_before q.target (is.evaluated e q there done)
      where
        of_before : (w : Place) → EvaluatedBefore equations ss (length ss) w → AtHand sets child_sets equations ss (length ss) w
        of_before (Own a) b = inl b
        of_before (Child c a) b = inl b
    at_hand u (taken a v takes) done = inr (v, is.taken a v done takes, takes)
    at_hand u (given c a v inside gives) done =
        let some = gives.0 in
        let enough = is.given c a v done gives in
        let f = counted_at (is_visit c) ss (length ss) (v - 1) (omega arith) in
        let (w, is_visit_w) = is_visit_step c f.step f.passes in
        let so = is.so in
        let at : slice_get ss f.place ≡ Some (Visit c w) = f.is_step ∙ ap Some is_visit_w in
        let count = f.count in
        let number = so.in_order f.place c w at in
        let same : w ≡ v = omega arith in
        inr (f.place, v, f.below, subst (λ x. slice_get ss f.place ≡ Some (Visit c x)) same at, gives)

    -- the invariant's other parts after a step that isn't an evaluation
    module _ (s : PlanStep) (plain : (e : ℕ) → s ≡ Evaluate e → ⊥) (may : Allows sets child_sets children equations ss s) where
      pub quiet : IsMade sets child_sets children equations Done (ss ++ s ∷ [])
      quiet = record {
        so = pushed sets child_sets children equations ss is.so s may;
        evaluated = λ e q there done. longer q.target (is.evaluated e q there done);
        only = λ j e q at there. elim (get_pushed ss s j (Evaluate e) at) [
          | inl x ↦ is.only j e q x.1 there
          | inr x ↦ absurd (plain e (sym x.1))
        ];
        taken = λ a v done takes. let was = is.taken a v done takes in let more = counted_push is_leave ss s in omega arith;
        given = λ c a v done gives. let was = is.given c a v done gives in let more = counted_push (is_visit c) ss s in omega arith;
      }
        where
          longer : (u : Place) → EvaluatedBefore equations ss (length ss) u → EvaluatedBefore equations (ss ++ s ∷ []) (length (ss ++ s ∷ [])) u
          longer u before =
              let now = evaluated_pushed sets child_sets children equations ss s (length ss) u before in
              (now.0, (let lt = now.1 in let l = length_push ss s in omega arith), now.2)

    -- a visit ends where what it gives is done
    pub may_leave : ((a : ℕ) → Gives sets (counted is_leave ss (length ss) + 1) a → Done (Own a)) → IsMade sets child_sets children equations Done (ss ++ Leave ∷ [])
    may_leave ready = quiet Leave (λ e x. cc) (λ a gives.
        let (e, q, there, target) = order.own_made (counted is_leave ss (length ss) + 1) a gives in
        subst (EvaluatedBefore equations ss (length ss)) target (is.evaluated e q there (subst Done (sym target) (ready a gives))))

    -- a child is visited where what it takes in is done
    pub may_visit : (c : ℕ) → c < children → ((a : ℕ) → TakesIn (child_sets c) (counted (is_visit c) ss (length ss) + 1) a → Done (Child c a))
        → IsMade sets child_sets children equations Done (ss ++ Visit c (counted (is_visit c) ss (length ss) + 1) ∷ [])
    may_visit c inside ready = quiet (Visit c (counted (is_visit c) ss (length ss) + 1)) (λ e x. cc) (
      inside,
      refl,
      λ a takes.
          let (e, q, there, target) = order.child_made c (counted (is_visit c) ss (length ss) + 1) a inside takes in
          subst (EvaluatedBefore equations ss (length ss)) target (is.evaluated e q there (subst Done (sym target) (ready a takes))),
    )

    -- an equation is evaluated where all that stands before its target is done, and its target isn't
    module _ (e : ℕ) (q : PureEquation) (there : slice_get equations e ≡ Some q) (ready : (u : Place) → Before u q.target → Done u) (new : Done q.target → ⊥)
        (no_own : (a v : ℕ) → q.target ≡ Own a → TakesIn sets v a → ⊥) (no_child : (c a v : ℕ) → q.target ≡ Child c a → Gives (child_sets c) v a → ⊥) where
      pub may_evaluate : IsMade sets child_sets children equations (λ u. Done u ⊎ (u ≡ q.target)) (ss ++ Evaluate e ∷ [])
      may_evaluate = record {
        so = pushed sets child_sets children equations ss is.so (Evaluate e) (
          slice_get_within equations e q there,
          (λ j at. new (is.only j e q at there)),
          λ r u r_is has.
              let same : r ≡ q = let x = sym r_is ∙ there in cc in
              let used = order.uses e q u there (subst (λ x. Contains x.uses u) same has) in
              at_hand u used.0 (ready u used.1),
        );
        evaluated = λ f r f_is done. elim done [
          | inl was ↦ longer r.target (is.evaluated f r f_is was)
          | inr target ↦ subst (EvaluatedBefore equations (ss ++ Evaluate e ∷ []) (length (ss ++ Evaluate e ∷ []))) (sym target) (
            length ss,
            (let l = length_push ss (Evaluate e) in omega arith),
            record {
              number = e;
              equation = q;
              is_step = new_stands ss (Evaluate e);
              is_there = there;
              is_target = refl;
            },
          )
        ];
        only = λ j f r at f_is. elim (get_pushed ss (Evaluate e) j (Evaluate f) at) [
          | inl x ↦ inl (is.only j f r x.1 f_is)
          | inr x ↦
              let same : f ≡ e = let y = x.1 in cc in
              let r_same : r ≡ q = let y = sym f_is ∙ ap (slice_get equations) same ∙ there in cc in
              inr (ap (λ x. x.target) r_same)
        ];
        taken = λ a v done takes. let more = counted_push is_leave ss (Evaluate e) in elim done [
          | inl was ↦ let le = is.taken a v was takes in omega arith
          | inr target ↦ absurd (no_own a v (sym target) takes)
        ];
        given = λ c a v done gives. let more = counted_push (is_visit c) ss (Evaluate e) in elim done [
          | inl was ↦ let le = is.given c a v was gives in omega arith
          | inr target ↦ absurd (no_child c a v (sym target) gives)
        ];
      }
        where
          longer : (u : Place) → EvaluatedBefore equations ss (length ss) u → EvaluatedBefore equations (ss ++ Evaluate e ∷ []) (length (ss ++ Evaluate e ∷ [])) u
          longer u before =
              let now = evaluated_pushed sets child_sets children equations ss (Evaluate e) (length ss) u before in
              (now.0, (let lt = now.1 in let l = length_push ss (Evaluate e) in omega arith), now.2)

    -- an attribute that was taken in, or given, is done once there were so many visits
    pub may_take : (a w : ℕ) → w ≤ counted is_leave ss (length ss) + 1 → ((v : ℕ) → TakesIn sets v a → v ≤ w)
        → ((e : ℕ) (q : PureEquation) → slice_get equations e ≡ Some q → q.target ≡ Own a → ⊥) → IsMade sets child_sets children equations (λ u. Done u ⊎ (u ≡ Own a)) ss
    may_take a w enough is_w none = record {
      so = is.so;
      evaluated = λ e q there done. elim done [ inl was ↦ is.evaluated e q there was | inr target ↦ absurd (none e q there target) ];
      only = λ j e q at there. inl (is.only j e q at there);
      taken = λ b v done takes. elim done [
        | inl was ↦ is.taken b v was takes
        | inr same ↦ let b_is : b ≡ a = cc in let le = is_w v (subst (TakesIn sets v) b_is takes) in omega arith
      ];
      given = λ c b v done gives. elim done [ inl was ↦ is.given c b v was gives | inr same ↦ absurd (let x : Child c b ≡ Own a = same in cc) ];
    }

    pub may_give : (c a w : ℕ) → w ≤ counted (is_visit c) ss (length ss) → ((v : ℕ) → Gives (child_sets c) v a → v ≤ w)
        → ((e : ℕ) (q : PureEquation) → slice_get equations e ≡ Some q → q.target ≡ Child c a → ⊥) → IsMade sets child_sets children equations (λ u. Done u ⊎ (u ≡ Child c a)) ss
    may_give c a w enough is_w none = record {
      so = is.so;
      evaluated = λ e q there done. elim done [ inl was ↦ is.evaluated e q there was | inr target ↦ absurd (none e q there target) ];
      only = λ j e q at there. inl (is.only j e q at there);
      taken = λ b v done takes. elim done [ inl was ↦ is.taken b v was takes | inr same ↦ absurd (let x : Own b ≡ Child c a = same in cc) ];
      given = λ d b v done gives. elim done [
        | inl was ↦ is.given d b v was gives
        | inr same ↦
            let d_is : d ≡ c = cc in
            let b_is : b ≡ a = cc in
            let le = is_w v (subst (λ x. Gives (child_sets x) v a) d_is (subst (Gives (child_sets d) v) b_is gives)) in
            let count : counted (is_visit d) ss (length ss) ≡ counted (is_visit c) ss (length ss) = ap (λ x. counted (is_visit x) ss (length ss)) d_is in
            omega arith
      ];
    }

    -- where all is done and the visits are made, the last Leave makes the plan fit
    pub fits_at_end : ((e : ℕ) (q : PureEquation) → slice_get equations e ≡ Some q → Done q.target)
        → ((a v : ℕ) → Gives sets v a → Done (Own a))
        → counted is_leave ss (length ss) + 1 ≡ visit_count sets
        → ((c : ℕ) → c < children → counted (is_visit c) ss (length ss) ≡ visit_count (child_sets c))
        → TypeFits sets child_sets children equations (ss ++ Leave ∷ [])
    fits_at_end all own_done leaves visits =
        let end = may_leave (λ a gives. own_done a (counted is_leave ss (length ss) + 1) gives) in
        let so = end.so in
        record {
          visits = (let more = counted_push is_leave ss Leave in omega arith);
          ends = (let l = length_push ss Leave in let e : length (ss ++ Leave ∷ []) - 1 ≡ length ss = omega arith in ap (slice_get (ss ++ Leave ∷ [])) e ∙ new_stands ss Leave);
          some = λ e below. elim (slice_get_cases equations e).1 [
            | inl found ↦
                let q = found.0 in
                let (j, lt, ev) = end.evaluated e q found.2 (all e q found.2) in
                let same = order.one_target ev.number e ev.equation q ev.is_there found.2 ev.is_target in
                (j, ev.is_step ∙ ap (λ x. Some (Evaluate x)) same)
            | inr past ↦ absurd (let p = past.0 in omega arith)
          ];
          once = so.once;
          known = so.known;
          after = so.after;
          is_child = so.is_child;
          in_order = so.in_order;
          all = λ c inside. let was = visits c inside in let more = counted_push (is_visit c) ss Leave in omega arith;
          before_visit = so.before_visit;
          before_leave = so.before_leave;
        }

  -- the same places are done
  pub made_as : (Done Done2 : Place → Type 0) (ss : List PlanStep) → ((u : Place) → Done u → Done2 u) → ((u : Place) → Done2 u → Done u) → IsMade sets child_sets children equations Done ss → IsMade sets child_sets children equations Done2 ss
  made_as Done Done2 ss there back is = record {
    so = is.so;
    evaluated = λ e q at done. is.evaluated e q at (back q.target done);
    only = λ j e q at is_q. there q.target (is.only j e q at is_q);
    taken = λ a v done takes. is.taken a v (back (Own a) done) takes;
    given = λ c a v done gives. is.given c a v (back (Child c a) done) gives;
  }

  -- at the beginning nothing is done
  pub nothing_made : (Done : Place → Type 0) → ((u : Place) → Done u → ⊥) → SoFar sets child_sets children equations [] → IsMade sets child_sets children equations Done []
  nothing_made Done none so = record {
    so = so;
    evaluated = λ e q at done. absurd (none q.target done);
    only = λ j e q at is_q. absurd (let x : None ≡ Some (Evaluate e) = at in cc);
    taken = λ a v done takes. absurd (none (Own a) done);
    given = λ c a v done gives. absurd (none (Child c a) done);
  }
