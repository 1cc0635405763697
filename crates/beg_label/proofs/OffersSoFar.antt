-- The offers of one rule more; operands in range.
use Rattle.std.proofs.Common.{◌≡◌, ℕ, ◌+◌, ◌⊎◌, zero, suc, List, [], ◌∷◌, ◌++◌, take, drop, map, true, false, Some, inl, inr, refl, sym, subst, ap, ◌∙◌, add-one}
use Rattle.std.specs.Prelude.{slice_get}
use Rattle.beg_model.specs.Cover.{Application}
use Rattle.beg_model.specs.declared.matched.Subgoal.{Subgoal}
use Rattle.beg_model.specs.Fitting.{Target, field_value}
use Rattle.beg_model.specs.Applies.{Applies, cost_at}
use Rattle.beg_model.specs.Matching.{Matches, RuleFitsOrNot}
use Rattle.beg_model.proofs.Applied.{applied, not_applied}
use Rattle.beg_model.specs.Labels.{Costs}
use Rattle.beg_model.specs.Rules.{Rule}
use Rattle.beg_label.specs.declared.offers.Offer.{Offer}
use Rattle.beg_label.specs.within.Offers.{IsIn, capped}
use Rattle.beg_label.specs.within.Collected.{IsOffer, RuleOffered, Collected, total_from, cost_or_nothing, cost_by, own_operand}

pub in_front : {A : Type 0} (xs : List A) (x y : A) → IsIn x xs → IsIn x (xs ++ y ∷ [])
in_front xs x y (i, at) = (i, go xs i at)
  where
    go : (zs : List _) (i : ℕ) → slice_get zs i ≡ Some x → slice_get (zs ++ y ∷ []) i ≡ Some x
    go [] i e = (cc)
    go (z ∷ zs) zero e = e
    go (z ∷ zs) (suc i) e = go zs i e

pub in_end : {A : Type 0} (xs : List A) (y : A) → IsIn y (xs ++ y ∷ [])
in_end [] y = (0, refl)
in_end (x ∷ xs) y = let (i, at) = in_end xs y in (suc i, at)

pub in_either : {A : Type 0} (xs : List A) (x y : A) → IsIn x (xs ++ y ∷ []) → IsIn x xs ⊎ (x ≡ y)
in_either [] x y (zero, at) = inr (cc)
in_either [] x y (suc i, at) = absurd (cc)
in_either (z ∷ xs) x y (zero, at) = inl (0, at)
in_either (z ∷ xs) x y (suc i, at) = elim (in_either xs x y (i, at)) [ inl (j, is) ↦ inl (suc j, is) | inr same ↦ inr same ]

pub none_collected : (Applies : Application) (costs : Costs) (n : ℕ) → Collected Applies costs n [] []
none_collected Applies costs n = record { each = λ o (i, at). absurd (cc); all = λ r x k ps (i, at) a. absurd (cc) }

pub one_collected : (Applies : Application) (costs : Costs) (n r : ℕ) (list : List ℕ) (old new : List Offer)
    → ((q m x y k l : ℕ) (ps qs : List Subgoal) → Applies q m x k ps → Applies q m y l qs → (x ≡ y) × (k ≡ l) × (ps ≡ qs))
    → Collected Applies costs n list old → RuleOffered Applies costs n r old new → Collected Applies costs n (list ++ r ∷ []) new
one_collected Applies costs n r list old new one so_far (inl (x, k, ps, o, a, is, new_is)) = subst (λ z. Collected Applies costs n (list ++ r ∷ []) z) (sym new_is) (record {
  each = λ p among. elim (in_either old p o among) [
    | inl before ↦ so_far.each p before
    | inr same ↦ (r, x, k, ps, a, subst (λ z. IsOffer costs r n x k ps z) (sym same) is)
  ];
  all = λ q y l qs among b. elim (in_either list q r among) [
    | inl before ↦ (let (p, there_is, offer) = so_far.all q y l qs before b in (p, in_front old p o there_is, offer))
    | inr same ↦ (let (left, cost, places) = one r n x y k l ps qs a (subst (λ z. Applies z n y l qs) same b) in (
      o,
      in_end old o,
      subst (λ z. IsOffer costs z n y l qs o) (sym same) (subst (λ z. IsOffer costs r n z l qs o) left
          (subst (λ z. IsOffer costs r n x z qs o) cost (subst (λ z. IsOffer costs r n x k z o) places is))),
    ))
  ];
})
one_collected Applies costs n r list old new one so_far (inr (none, new_is)) = subst (λ z. Collected Applies costs n (list ++ r ∷ []) z) (sym new_is) (record {
  each = so_far.each;
  all = λ q y l qs among b. elim (in_either list q r among) [
    | inl before ↦ so_far.all q y l qs before b
    | inr same ↦ absurd (none y l qs (subst (λ z. Applies z n y l qs) same b))
  ];
})

-- one label more in the sum
pub drop_place : (ps : List Subgoal) (i : ℕ) (p : Subgoal) → slice_get ps i ≡ Some p → drop i ps ≡ p ∷ drop (i + 1) ps
drop_place [] i p e = (cc)
drop_place (q ∷ ps) zero p e = let same : q ≡ p = (cc) in ap (λ z. z ∷ ps) same
drop_place (q ∷ ps) (suc i) p e = let more = drop_place ps i p e in rw add-one (rw add-one at more)

pub sum_more : (costs : Costs) (ps : List Subgoal) (i sum next : ℕ) (p : Subgoal) → slice_get ps i ≡ Some p
    → next ≡ capped (sum + cost_or_nothing (costs p.node p.nonterminal)) → total_from costs next (drop (i + 1) ps) ≡ total_from costs sum (drop i ps)
sum_more costs ps i sum next p at is = ap (λ z. total_from costs z (drop (i + 1) ps)) is ∙ sym (ap (λ z. total_from costs sum z) (drop_place ps i p at))

pub take_read : (list : List ℕ) (i r : ℕ) → slice_get list i ≡ Some r → take (i + 1) list ≡ take i list ++ r ∷ []
take_read [] i r e = (cc)
take_read (q ∷ list) zero r e = let same : q ≡ r = (cc) in ap (λ z. z ∷ []) same
take_read (q ∷ list) (suc i) r e = let more = take_read list i r e in rw add-one (ap (λ z. q ∷ z) (rw add-one at more))

pub offer_made : {rules : List Rule} {on : Target} (costs : Costs) (r n : ℕ) (rule : Rule) (found : Matches) (old new : List Offer) (o : Offer) (operands : List Subgoal) (own_cost : ℕ)
    → slice_get rules r ≡ Some rule → RuleFitsOrNot on rule n found true → o.rule ≡ r → o.left ≡ rule.left → operands ≡ found.operands
    → own_cost ≡ cost_at rule (map (field_value on) found.values) → o.operand ≡ own_operand operands n → o.cost ≡ cost_by o.operand own_cost (total_from costs 0 operands)
    → new ≡ old ++ o ∷ [] → RuleOffered (Applies rules on) costs n r old new
offer_made {on = on} costs r n rule found old new o operands own_cost is fits rule_is left_is places cost own total new_is =
    let operand_is : o.operand ≡ own_operand found.operands n = own ∙ ap (λ z. own_operand z n) places in
    inl (
      rule.left,
      cost_at rule (map (field_value on) found.values),
      found.operands,
      o,
      applied r n rule found is fits,
      record {
        rule_is = rule_is;
        left_is = left_is;
        operand_is = operand_is;
        cost_is = total ∙ ap (λ z. cost_by z own_cost (total_from costs 0 operands)) operand_is
            ∙ ap (λ z. cost_by (own_operand found.operands n) z (total_from costs 0 operands)) cost
            ∙ ap (λ z. cost_by (own_operand found.operands n) (cost_at rule (map (field_value on) found.values)) (total_from costs 0 z)) places;
      },
      new_is,
    )

pub offer_none : {rules : List Rule} {on : Target} (costs : Costs) (r n : ℕ) (rule : Rule) (found : Matches) (old : List Offer) → slice_get rules r ≡ Some rule
    → RuleFitsOrNot on rule n found false → RuleOffered (Applies rules on) costs n r old old
offer_none costs r n rule found old is none = inr (not_applied r n rule found is none, refl)
