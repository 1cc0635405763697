-- Each step that the maker takes keeps what was made.
use Rattle.std.proofs.Common.{◌≡◌, ℕ, ◌+◌, ◌-◌, ◌*◌, ◌<◌, ◌≤◌, ◌⊎◌, inl, inr, true, false, List, [], ◌∷◌, ◌++◌, length, Option, Some, None, Vec, take, refl, sym, ◌∙◌, subst, ap, arith, length-set, get_or-set_other, get_or-set_same}
use Rattle.std.specs.Prelude.{slice_get, slice_index, slice_set, Contains}
use Rattle.std.specs.Global.{Global}
use Rattle.std.proofs.lemmas.Bool.{cases_eq, eq-eqb, ne_eqb}
use Rattle.std.proofs.lemmas.List.{take_more}
use Rattle.std.proofs.lemmas.List.Elements.{Contains-push, Contains-push_cases, Contains-append_left}
use Rattle.std.proofs.lemmas.Option.{slice_get_within, get_or_from_slice_get}
use Rattle.ck_base.specs.Pairs.{Closure}
use Rattle.ag_model.proofs.TypesInRange.{family_there, child_there}
use Rattle.ag_model.specs.Attribution.{PureEquation, attributes_at, attributes_of, kinds_of, family_of, children_of}
use Rattle.ag_model.specs.Complete.{IsGiven}
use Rattle.ag_model.specs.Ordered.{Edp}
use Rattle.ag_model.specs.Parts.{is_odd}
use Rattle.ag_model.specs.Plans.{is_leave, is_visit, one_if, counted, visit_count, TakesIn, Gives, sets_at}
use Rattle.ag_model.specs.declared.attribution.Place.{Place}
use Rattle.ag_model.specs.declared.attribution.Place.TheVariants.{Own, Child}
use Rattle.ag_model.specs.declared.plan.PlanStep.{PlanStep}
use Rattle.ag_model.specs.declared.plan.PlanStep.TheVariants.{Evaluate, Visit, Leave}
use Rattle.ag_planner.specs.within.Made.{IsMade, IsCounted, DoneBefore}
use Rattle.ag_planner.specs.within.Tasks.{IsReady, IsSoFar, IsOrderOf, g_of, set_plan, own_sets, below, child_total, own_equations}
use Rattle.ag_planner.specs.declared.maker.Task.{Task}
use Rattle.ag_planner.specs.declared.maker.Maker.{Maker}
use Rattle.ag_planner.proofs.OrderOfEdp.{HasParts, edp_order, kind_is, same_kind}
use Rattle.ag_planner.proofs.PlanMade.{IsOrder, counted_push, may_leave, may_visit, may_evaluate, made_as}
use Rattle.ag_planner.proofs.SetsOfFamily.{has_parts}
use Rattle.ag_planner.proofs.Turns.{even_part, odd_part}

-- the families' sets have parts
pub own_parts_of : (task : Task) → IsReady task → HasParts (g_of task) (family_of (g_of task) task.t) (own_sets task)
own_parts_of task ready =
    let complete = ready.complete in
    let sets = ready.sets in
    let x = family_of (g_of task) task.t in
    has_parts (g_of task) ready.ids ready.are_ids ready.acyclic x (own_sets task) (sets.each x (family_there (g_of task) complete task.t ready.there))

pub child_parts_of : (task : Task) → IsReady task → (c x : ℕ) → slice_get (children_of (g_of task) task.t) c ≡ Some x → HasParts (g_of task) x (below task c)
child_parts_of task ready c x is =
    let complete = ready.complete in
    let sets = ready.sets in
    subst (λ o. HasParts (g_of task) x (sets_at (set_plan task) o)) (sym is)
    (has_parts (g_of task) ready.ids ready.are_ids ready.acyclic x (sets_at (set_plan task) (Some x)) (sets.each x (child_there (g_of task) complete task.t c x is)))

pub task_order : (task : Task) → IsReady task → IsOrder (own_sets task) (below task) (child_total task) (own_equations task) (Closure (Edp (g_of task) task.t))
task_order task ready =
    edp_order (g_of task) ready.complete task.t ready.there (own_sets task) (below task) (own_parts_of task ready) (child_parts_of task ready)

-- what is done goes on by a place
take_one : {X : Type 0} (xs : List X) (i : ℕ) (x : X) → slice_get xs i ≡ Some x → take (i + 1) xs ≡ take i xs ++ x ∷ []
take_one xs i x is = take_more xs i x (slice_get_within xs i x is) ∙ ap (λ z. take i xs ++ z ∷ []) (get_or_from_slice_get xs i x x is)

pub done_more : (order : List Place) (i : ℕ) (w : Place) → slice_get order i ≡ Some w → (u : Place)
    → (DoneBefore order i u ⊎ (u ≡ w) → DoneBefore order (i + 1) u) × (DoneBefore order (i + 1) u → DoneBefore order i u ⊎ (u ≡ w))
done_more order i w is u = (
  λ h. subst (λ zs. Contains zs u) (sym (take_one order i w is)) (elim h [
    | inl old ↦ Contains-append_left (take i order) (w ∷ []) u old
    | inr same ↦ subst (Contains (take i order ++ w ∷ [])) (sym same) (Contains-push (take i order) w)
  ]),
  λ has. elim (Contains-push_cases (take i order) w u (subst (λ zs. Contains zs u) (take_one order i w is) has)) [ inl old ↦ inl old | inr same ↦ inr (sym same) ],
)

module _ (task : Task) (ready : IsReady task) (i : ℕ) (maker : Maker) (so : IsSoFar task i maker) where
  -- a visit ends
  pub one_more_leave : (v : ℕ) (steps : Vec PlanStep Global) → maker.leaves + 1 < v → v ≤ visit_count (own_sets task)
      → ((w b : ℕ) → w < v → Gives (own_sets task) w b → DoneBefore task.order.now i (Own b)) → steps.items ≡ maker.steps.items ++ Leave ∷ []
      → IsSoFar task i (record { steps = steps; leaves = maker.leaves + 1; made = maker.made })
  one_more_leave v steps lt within done is =
      let counts = so.counts in
      let now : counted is_leave maker.steps.items (length maker.steps.items) + 1 < v = let l = counts.leaves_is in omega arith in
      record {
        made = subst (IsMade (own_sets task) (below task) (child_total task) (own_equations task) (DoneBefore task.order.now i)) (sym is)
            (may_leave (own_sets task) (below task) (child_total task) (own_equations task) (Closure (Edp (g_of task) task.t)) (task_order task ready)
            (DoneBefore task.order.now i) maker.steps.items so.made (λ a gives. done (counted is_leave maker.steps.items (length maker.steps.items) + 1) a now gives));
        counts = subst (λ xs. IsCounted xs (maker.leaves + 1) maker.made.items) (sym is) (record {
          leaves_is = let l = counts.leaves_is in let more = counted_push is_leave maker.steps.items Leave in omega arith;
          made_is = λ c below_c. let m = counts.made_is c below_c in let more = counted_push (is_visit c) maker.steps.items Leave in omega arith;
        });
        children = so.children;
        few = omega arith;
        few_made = so.few_made;
      }

  -- a child is visited
  pub one_more_visit : (c v n : ℕ) (steps : Vec PlanStep Global) (made : Vec ℕ Global) → c < child_total task → n ≡ slice_index maker.made.items c → n < v → v ≤ visit_count (below task c)
      → ((w b : ℕ) → w ≤ v → TakesIn (below task c) w b → DoneBefore task.order.now i (Child c b)) → steps.items ≡ maker.steps.items ++ Visit c (n + 1) ∷ []
      → made.items ≡ slice_set maker.made.items c (n + 1)
      → IsSoFar task i (record { steps = steps; leaves = maker.leaves; made = made })
  one_more_visit c v n steps made inside read lt within done is made_is =
      let counts = so.counts in
      let children = so.children in
      let count : n ≡ counted (is_visit c) maker.steps.items (length maker.steps.items) = read ∙ counts.made_is c (omega arith) in
      let next : steps.items ≡ maker.steps.items ++ Visit c (counted (is_visit c) maker.steps.items (length maker.steps.items) + 1) ∷ [] =
      is ∙ ap (λ k. maker.steps.items ++ Visit c (k + 1) ∷ []) count in
      record {
        made = subst (IsMade (own_sets task) (below task) (child_total task) (own_equations task) (DoneBefore task.order.now i)) (sym next)
            (may_visit (own_sets task) (below task) (child_total task) (own_equations task) (Closure (Edp (g_of task) task.t)) (task_order task ready)
            (DoneBefore task.order.now i) maker.steps.items so.made c inside
            (λ a takes. done (counted (is_visit c) maker.steps.items (length maker.steps.items) + 1) a (omega arith) takes));
        counts = subst (λ xs. IsCounted xs maker.leaves made.items) (sym is) (record {
          leaves_is = let l = counts.leaves_is in let more = counted_push is_leave maker.steps.items (Visit c (n + 1)) in omega arith;
          made_is = λ d below_d. now_made d below_d;
        });
        children = ap length made_is ∙ length-set maker.made.items c (n + 1) ∙ so.children;
        few = so.few;
        few_made = λ d below_d. few_now d below_d;
      }
    where
      read_now : (d : ℕ) → slice_index made.items d ≡ slice_index (slice_set maker.made.items c (n + 1)) d
      read_now d = ap (λ xs. slice_index xs d) made_is

      c_inside : c < length maker.made.items
      c_inside = let children = so.children in omega arith

      now_made : (d : ℕ) → d < length made.items
          → slice_index made.items d ≡ counted (is_visit d) (maker.steps.items ++ Visit c (n + 1) ∷ []) (length (maker.steps.items ++ Visit c (n + 1) ∷ []))
      now_made d below_d =
          let counts = so.counts in
          let size : length made.items ≡ length maker.made.items = ap length made_is ∙ length-set maker.made.items c (n + 1) in
          let more = counted_push (is_visit d) maker.steps.items (Visit c (n + 1)) in
          let was = counts.made_is d (omega arith) in
          elim (cases_eq d c) [
            | inl same ↦
                let passes : one_if (is_visit d (Visit c (n + 1))) ≡ 1 = ap one_if (eq-eqb c d (sym same)) in
                let here : slice_index (slice_set maker.made.items c (n + 1)) d ≡ n + 1 =
                subst (λ z. slice_index (slice_set maker.made.items c (n + 1)) z ≡ n + 1) (sym same) (get_or-set_same maker.made.items c (n + 1) 0 c_inside) in
                let at_c = ap (λ z. slice_index maker.made.items z) same in
                let now = read_now d in
                omega arith
            | inr other ↦
                let fails : one_if (is_visit d (Visit c (n + 1))) ≡ 0 = ap one_if (ne_eqb c d (λ e. other (sym e))) in
                let here : slice_index (slice_set maker.made.items c (n + 1)) d ≡ slice_index maker.made.items d = get_or-set_other maker.made.items c d (n + 1) 0 other in
                let now = read_now d in
                omega arith
          ]

      few_now : (d : ℕ) → d < child_total task → slice_index made.items d ≤ visit_count (below task d)
      few_now d below_d = elim (cases_eq d c) [
        | inl same ↦
            let here : slice_index (slice_set maker.made.items c (n + 1)) d ≡ n + 1 =
            subst (λ z. slice_index (slice_set maker.made.items c (n + 1)) z ≡ n + 1) (sym same) (get_or-set_same maker.made.items c (n + 1) 0 c_inside) in
            let now = read_now d in
            let count = ap (λ z. visit_count (below task z)) same in
            omega arith
        | inr other ↦
            let here : slice_index (slice_set maker.made.items c (n + 1)) d ≡ slice_index maker.made.items d = get_or-set_other maker.made.items c d (n + 1) 0 other in
            let now = read_now d in
            let was = so.few_made d below_d in
            omega arith
      ]

  -- the places done go on, with the same steps
  pub goes_on : (w : Place) → slice_get task.order.now i ≡ Some w
      → IsMade (own_sets task) (below task) (child_total task) (own_equations task) (λ u. DoneBefore task.order.now i u ⊎ (u ≡ w)) maker.steps.items → IsSoFar task (i + 1) maker
  goes_on w is made = record {
    made = made_as (own_sets task) (below task) (child_total task) (own_equations task) (Closure (Edp (g_of task) task.t)) (λ u. DoneBefore task.order.now i u ⊎ (u ≡ w)) (DoneBefore task.order.now (i + 1))
        maker.steps.items (λ u. (done_more task.order.now i w is u).0) (λ u. (done_more task.order.now i w is u).1) made;
    counts = so.counts;
    children = so.children;
    few = so.few;
    few_made = so.few_made;
  }

  -- an equation is evaluated
  pub one_more_equation : (e : ℕ) (q : PureEquation) (steps : Vec PlanStep Global) → slice_get (own_equations task) e ≡ Some q → slice_get task.order.now i ≡ Some q.target
      → steps.items ≡ maker.steps.items ++ Evaluate e ∷ [] → IsSoFar task (i + 1) (record { steps = steps; leaves = maker.leaves; made = maker.made })
  one_more_equation e q steps there at_i is = record {
    made = subst (IsMade (own_sets task) (below task) (child_total task) (own_equations task) (DoneBefore task.order.now (i + 1))) (sym is)
        (made_as (own_sets task) (below task) (child_total task) (own_equations task) (Closure (Edp (g_of task) task.t)) (λ u. DoneBefore task.order.now i u ⊎ (u ≡ q.target)) (DoneBefore task.order.now (i + 1))
        (maker.steps.items ++ Evaluate e ∷ []) (λ u. (done_more task.order.now i q.target at_i u).0) (λ u. (done_more task.order.now i q.target at_i u).1)
        (may_evaluate (own_sets task) (below task) (child_total task) (own_equations task) (Closure (Edp (g_of task) task.t)) (task_order task ready)
        (DoneBefore task.order.now i) maker.steps.items so.made e q there
        (λ u before. order.ready i u q.target at_i before) (order.new i q.target at_i) no_own no_child));
    counts = subst (λ xs. IsCounted xs maker.leaves maker.made.items) (sym is) (record {
      leaves_is = let counts = so.counts in let l = counts.leaves_is in let more = counted_push is_leave maker.steps.items (Evaluate e) in omega arith;
      made_is = λ c below_c. let counts = so.counts in let m = counts.made_is c below_c in let more = counted_push (is_visit c) maker.steps.items (Evaluate e) in omega arith;
    });
    children = so.children;
    few = so.few;
    few_made = so.few_made;
  }
    where
      order : IsOrderOf (g_of task) task.t task.order.now
      order = ready.order

      given : IsGiven (g_of task) task.t q.target
      given = let complete = ready.complete in complete.target task.t e q there

      own_kind : (a : ℕ) → IsGiven (g_of task) task.t (Own a) → slice_get (kinds_of (g_of task) (family_of (g_of task) task.t)) a ≡ Some true
      own_kind a (attribute, found, kind) = kind_is (attributes_of (g_of task) (family_of (g_of task) task.t)) a attribute found ∙ ap Some kind

      no_own : (a v : ℕ) → q.target ≡ Own a → TakesIn (own_sets task) v a → ⊥
      no_own a v target takes =
          let parts = own_parts_of task ready in
          let fit = parts.fit in
          let kind = fit.kind (2 * (visit_count (own_sets task) - v) + 2) a (omega arith) takes.2 in
          let even = even_part (visit_count (own_sets task) - v) in
          let odd = same_kind (is_odd (2 * (visit_count (own_sets task) - v) + 2)) true (kinds_of (g_of task) (family_of (g_of task) task.t)) a kind
          (own_kind a (subst (IsGiven (g_of task) task.t) target given)) in
          let x : false ≡ true = sym even ∙ odd in cc

      no_child : (c a v : ℕ) → q.target ≡ Child c a → Gives (below task c) v a → ⊥
      no_child c a v target gives = go (slice_get (children_of (g_of task) task.t) c) refl (subst (IsGiven (g_of task) task.t) target given)
        where
          go : (o : Option ℕ) → slice_get (children_of (g_of task) task.t) c ≡ o → IsGiven (g_of task) task.t (Child c a) → ⊥
          go None none (attribute, found, kind) = let x : None ≡ Some attribute = subst (λ z. slice_get (attributes_at (g_of task) z) a ≡ Some attribute) none found in cc
          go (Some x) some (attribute, found, kind) =
              let parts = child_parts_of task ready c x some in
              let fit = parts.fit in
              let part = fit.kind (2 * (visit_count (below task c) - v) + 1) a (omega arith) gives.2 in
              let odd = odd_part (visit_count (below task c) - v) in
              let at_x : slice_get (attributes_of (g_of task) x) a ≡ Some attribute = subst (λ z. slice_get (attributes_at (g_of task) z) a ≡ Some attribute) some found in
              let even = same_kind (is_odd (2 * (visit_count (below task c) - v) + 1)) false (kinds_of (g_of task) x) a part (kind_is (attributes_of (g_of task) x) a attribute at_x ∙ ap Some kind) in
              let y : true ≡ false = sym odd ∙ even in cc
