-- A row in which no offer is better, put as the labels of a node, closes the node.
use Rattle.std.proofs.Common.{◌≡◌, ℕ, ◌+◌, ◌<◌, ◌≤◌, ◌⊎◌, ltb, List, [], ◌∷◌, length, Option, Some, None, inl, inr, arith, refl, sym, subst, ap, ◌∙◌}
use Rattle.std.proofs.lemmas.Bool.{lt-ltb, ltb-true, cases_lt, cases_eq, cases_Bool}
use Rattle.std.proofs.lemmas.Option.{slice_get_past}
use Rattle.beg_model.specs.declared.matched.Subgoal.{Subgoal}
use Rattle.beg_model.specs.Cover.{Application, IsOne}
use Rattle.beg_model.specs.Labels.{Label, LabelTable, label_at, cost_in, rule_in, least_of, rule_of}
use Rattle.beg_model.specs.Closed.{ClosedAt}
use Rattle.beg_model.proofs.ClosedLabels.{sums_alike}
use Rattle.beg_label.specs.declared.offers.Offer.{Offer}
use Rattle.beg_label.specs.declared.offers.Best.{Best}
use Rattle.beg_label.specs.within.Offers.{best_in, best_at, IsIn, NoneBetter}
use Rattle.beg_label.specs.within.Collected.{Collected}
use Rattle.beg_label.specs.within.Labelled.{label_for, RowPut}
use Rattle.beg_label.proofs.RowDone.{label_by, with_row, label_some, label_parts, at_row, off_row, RowOver, none_gives}

pub label_past : (t : LabelTable) (n x : ℕ) → (x < t.nonterminals → ⊥) → label_at t n x ≡ None
label_past t n x past = elim (cases_Bool (ltb x t.nonterminals)) [
  | inl below ↦ absurd (past (ltb-true x t.nonterminals below))
  | inr above ↦ rw above refl
]

cost_for : (b : Best) → cost_in (label_for b) ≡ label_by b
cost_for b = elim (cases_Bool (ltb b.cost 1099511627776)) [
  | inl low ↦ rw low refl
  | inr high ↦ rw high refl
]

rule_for : (b : Best) → b.cost < 1099511627776 → rule_in (label_for b) ≡ Some b.rule
rule_for b lt = rw (lt-ltb b.cost 1099511627776 lt) refl

no_rule : (o : Option Label) → cost_in o ≡ None → rule_in o ≡ None
no_rule None is = refl
no_rule (Some label) is = absurd (cc)

past_none : (row : List Best) (x : ℕ) → length row ≤ x → label_by (best_at row x) ≡ None
past_none row x le = ap (λ o. label_by (best_in o)) (slice_get_past row x le)

module _ (Applies : Application) (old new : LabelTable) (n : ℕ) (list : List ℕ) (offers : List Offer) (width : ℕ)
    (lies : (r x k : ℕ) (ps : List Subgoal) → Applies r n x k ps
    → ((y : ℕ) × (ps ≡ record { node = n; nonterminal = y } ∷ [])) ⊎ ((q : Subgoal) → IsOne q ps → q.node < n))
    (within : (r x k : ℕ) (ps : List Subgoal) → Applies r n x k ps → x < width)
    (listed : (r x k : ℕ) (ps : List Subgoal) → Applies r n x k ps → IsIn r list)
    (col : Collected Applies (least_of old) n list offers) (row : List Best)
    (over : RowOver Applies (least_of old) n list offers width lies within col row) (none : NoneBetter offers row)
    (put : RowPut old new n row) (wide : old.nonterminals ≡ width) where
  width_is : length row ≡ width
  width_is = over.size

  own_label : (y : ℕ) → least_of new n y ≡ label_by (best_at row y)
  own_label y = elim (cases_lt y (length row)) [
    | inl lt ↦ ap cost_in (put.own y lt) ∙ cost_for (best_at row y)
    | inr past ↦ (let size = width_is in let same = put.nonterminals_are in
        ap cost_in (label_past new n y (λ lt. omega (arith, lt, past, size, same, wide))) ∙ sym (past_none row y (omega (arith, past))))
  ]

  agree : (m y : ℕ) → least_of new m y ≡ with_row (least_of old) n row m y
  agree m y = elim (cases_eq m n) [
    | inl same ↦ subst (λ z. least_of new z y ≡ with_row (least_of old) n row z y) (sym same) (own_label y ∙ sym (at_row (least_of old) n row y))
    | inr differ ↦ ap cost_in (put.others m y differ) ∙ sym (off_row (least_of old) n row m y differ)
  ]

  own_rule : (x : ℕ) → (best_at row x).cost < 1099511627776 → rule_of new n x ≡ Some (best_at row x).rule
  own_rule x lt = elim (cases_lt x (length row)) [
    | inl within_row ↦ ap rule_in (put.own x within_row) ∙ rule_for (best_at row x) lt
    | inr past ↦ absurd (let e = ap (λ o. (best_in o).cost) (slice_get_past row x (omega (arith, past))) in omega (arith, e, lt))
  ]

  low_of : (c k e q r : ℕ) → (c < k + e) ⊎ ((c ≡ k + e) × (q ≤ r)) → c ≤ k + e
  low_of c k e q r (inl less) = omega (arith, less)
  low_of c k e q r (inr (same, first)) = omega (arith, same)

  pub node_closed : ClosedAt Applies 1099511627776 (least_of new) (rule_of new) n
  node_closed = record {
    over = λ x c is. (let (cost, lt) = label_parts (best_at row x) c (sym (own_label x) ∙ is) in
        let (k, e, ps, a, sums, le) = over.gives x (omega (arith, cost, lt)) in (
          (best_at row x).rule,
          k,
          e,
          ps,
          own_rule x (omega (arith, cost, lt)),
          a,
          sums_alike (with_row (least_of old) n row) (least_of new) ps e (λ q one. sym (agree q.node q.nonterminal)) sums,
          omega (arith, le, cost),
          lt,
        ));
    first = λ r x k e ps a sums lt. (
        let cases = none_gives Applies (least_of old) n list offers width lies within col row none r x k e ps (listed r x k ps a) a
        (sums_alike (least_of new) (with_row (least_of old) n row) ps e (λ q one. agree q.node q.nonterminal) sums) lt in
        let low = low_of (best_at row x).cost k e (best_at row x).rule r cases in
        let below : (best_at row x).cost < 1099511627776 = omega (arith, low, lt) in
        ((best_at row x).cost, (best_at row x).rule, own_label x ∙ label_some (best_at row x) below, own_rule x below, cases));
    none = λ x is. no_rule (label_at new n x) is;
  }
