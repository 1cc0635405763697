-- What a rule gives, from its match at a node and the sum of its operands' labels.
use Rattle.std.proofs.Common.{◌≡◌, ℕ, ◌+◌, ◌≤◌, List, map, Option, Some, None, true, false, inl, inr, arith, refl, sym, subst, ap, ◌∙◌}
use Rattle.std.specs.Prelude.{slice_get, nat_lt}
use Rattle.std.proofs.lemmas.Bool.{cases_lt, lt-ltb}
use Rattle.beg_model.specs.declared.matched.Subgoal.{Subgoal}
use Rattle.beg_model.specs.Rules.{Rule}
use Rattle.beg_model.specs.Fitting.{Target, field_value}
use Rattle.beg_model.specs.Applies.{Applies, cost_at}
use Rattle.beg_model.specs.Cover.{Application}
use Rattle.beg_model.specs.Labels.{Costs, Sums}
use Rattle.beg_model.specs.Matching.{Matches, RuleFitsOrNot}
use Rattle.beg_model.proofs.Applied.{applied, not_applied}
use Rattle.cover_check.specs.declared.giving.Given.{Given}
use Rattle.cover_check.specs.declared.giving.Given.TheVariants.{Nothing}
use Rattle.cover_check.specs.within.Givings.{sum_from, given_of, Gives, GivenIs}
use Rattle.cover_check.proofs.Sums.{sum_is, sums_of}

-- an application that is the only one of its rule at the node, with the sum of its operands' labels
pub given_by : (A : Application) (costs : Costs) (n x r k : ℕ) (ps : List Subgoal) → A r n x k ps
    → ((l : ℕ) (qs : List Subgoal) → A r n x l qs → (k ≡ l) × (ps ≡ qs)) → (s : Option ℕ) → sum_from costs (Some k) ps ≡ s → GivenIs A costs n x r (given_of s)
given_by A costs n x r k ps a one None is = λ total g. (
    let (cost, places) = one g.k g.ps g.applies in
    let e : Some (k + g.e) ≡ None = sym (sum_is costs ps g.e k (subst (λ z. Sums costs z g.e) (sym places) g.sums)) ∙ is in (cc))
given_by A costs n x r k ps a one (Some t) is =
    let (e, sums, total) = sums_of costs ps k t is in
    let gives : Gives A costs n x r t = record { k = k; e = e; ps = ps; applies = a; sums = sums; total_is = total } in
    elim (cases_lt t 18446744073709551616) [
      | inl lt ↦ rw (lt-ltb t 18446744073709551616 lt) gives
      | inr ge ↦ rw (not_lt t 18446744073709551616 ge) (t, gives, omega (arith, ge))
    ]
  where
    not_lt : (a b : ℕ) → (b ≤ a) → nat_lt a b ≡ false
    not_lt a b le = grind arith

pub given_rule : {rules : List Rule} {on : Target} (costs : Costs) (n x r : ℕ) (rule : Rule) (found : Matches) (operands : List Subgoal) (own_cost : ℕ) (given : Given)
    → ((q m y z k l : ℕ) (ps qs : List Subgoal) → Applies rules on q m y k ps → Applies rules on q m z l qs → (y ≡ z) × (k ≡ l) × (ps ≡ qs))
    → slice_get rules r ≡ Some rule → RuleFitsOrNot on rule n found true → rule.left ≡ x → operands ≡ found.operands
    → own_cost ≡ cost_at rule (map (field_value on) found.values) → given ≡ given_of (sum_from costs (Some own_cost) operands)
    → GivenIs (Applies rules on) costs n x r given
given_rule {rules = rules} {on = on} costs n x r rule found operands own_cost given one is fits left places cost told =
    let a = applied r n rule found is fits in
    let here : Applies rules on r n x own_cost operands =
    subst (λ z. Applies rules on r n x own_cost z) (sym places) (subst (λ z. Applies rules on r n x z found.operands) (sym cost)
    (subst (λ z. Applies rules on r n z (cost_at rule (map (field_value on) found.values)) found.operands) left a)) in
    subst (λ z. GivenIs (Applies rules on) costs n x r z) (sym told)
    (given_by (Applies rules on) costs n x r own_cost operands here (λ l qs b. (let (left, same, all) = one r n x x own_cost l operands qs here b in (same, all)))
    (sum_from costs (Some own_cost) operands) refl)

pub not_given : {rules : List Rule} {on : Target} (costs : Costs) (n x r : ℕ) (rule : Rule) (found : Matches) → slice_get rules r ≡ Some rule
    → RuleFitsOrNot on rule n found false → GivenIs (Applies rules on) costs n x r Nothing
not_given costs n x r rule found is none = λ total g. not_applied r n rule found is none x g.k g.ps g.applies

pub other_left : {rules : List Rule} {on : Target} (costs : Costs) (n x r : ℕ) (rule : Rule) → slice_get rules r ≡ Some rule
    → (rule.left ≡ x → ⊥) → GivenIs (Applies rules on) costs n x r Nothing
other_left costs n x r rule is differ = λ total g. (let same : g.applies.rule ≡ rule = same_rule g.applies.is is in
    differ (sym (ap (λ (z : Rule). z.left) same) ∙ g.applies.left))
  where
    same_rule : {o : Option Rule} {a b : Rule} → o ≡ Some a → o ≡ Some b → a ≡ b
    same_rule e f = cc
