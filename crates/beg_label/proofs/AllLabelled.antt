-- One node more with its labels; all of them.
use Rattle.std.proofs.Common.{◌≡◌, ℕ, ◌+◌, ◌<◌, ◌≤◌, List, [], ◌∷◌, length, None, inl, inr, arith, refl, sym, subst, ap, ◌∙◌}
use Rattle.std.proofs.lemmas.Bool.{cases_lt, cases_eq}
use Rattle.value_store.specs.declared.text.Texts.{Texts}
use Rattle.ast_types.specs.TypeTable.{IsSound, TypeTable}
use Rattle.tree_store.specs.Forest.{Node, IsForest}
use Rattle.beg_model.specs.declared.matched.Subgoal.{Subgoal}
use Rattle.beg_model.specs.declared.rules.CoverRules.{CoverRules}
use Rattle.beg_model.specs.Accepted.{IsAccepted}
use Rattle.beg_model.specs.Applies.{applies}
use Rattle.beg_model.specs.Cover.{Application, IsOne, here, there}
use Rattle.beg_model.specs.Labels.{LabelTable, label_at, cost_in, rule_in, least_of, rule_of, IsBlank, AreLeastAndChosen}
use Rattle.beg_model.specs.Closed.{ClosedAt}
use Rattle.beg_model.proofs.AcceptedRules.{accepted_order, cost_below}
use Rattle.beg_model.proofs.ClosedLabels.{closed_kept, closed_blank, all_chosen}
use Rattle.beg_model.proofs.Operands.{fits_there}
use Rattle.beg_label.specs.within.Labelled.{NodeLabelled}
use Rattle.beg_label.proofs.OneNode.{lies}

-- the nodes before i have their labels, the others have none
pub record LabelledTo (Applies : Application) (nodes nonterminals : ℕ) (table : LabelTable) (i : ℕ) : Type 0 where
  pub nodes_are : table.nodes ≡ nodes
  pub nonterminals_are : table.nonterminals ≡ nonterminals
  pub closed : (m : ℕ) → m < i → ClosedAt Applies 1099511627776 (least_of table) (rule_of table) m
  pub blank : (m y : ℕ) → i ≤ m → label_at table m y ≡ None

pub none_labelled : (Applies : Application) (nodes nonterminals : ℕ) (table : LabelTable) → IsBlank nodes nonterminals table → LabelledTo Applies nodes nonterminals table 0
none_labelled Applies nodes nonterminals table blank = record {
  nodes_are = blank.nodes_are;
  nonterminals_are = blank.nonterminals_are;
  closed = λ m lt. absurd (omega (arith, lt));
  blank = λ m y le. blank.none m y;
}

single_is : {p q : Subgoal} → IsOne p (q ∷ []) → p ≡ q
single_is (here _) = refl
single_is (there _ _ rest) = elim rest [ ]

module _ (texts : Texts) (rules : CoverRules) (table : TypeTable) (nodes : List Node) (sound : IsSound table) (forest : IsForest nodes)
    (is : IsAccepted texts rules table nodes) where
  low : (m r x k : ℕ) (ps : List Subgoal) (q : Subgoal) → applies texts rules table nodes r m x k ps → IsOne q ps → q.node ≤ m
  low m r x k ps q a one = elim (lies texts rules table nodes sound forest is m r x k ps a) [
    | inl (y, places) ↦ (let same = ap (λ (z : Subgoal). z.node) (single_is (subst (λ z. IsOne q z) places one)) in omega (arith, same))
    | inr lower ↦ (let lt = lower q one in omega (arith, lt))
  ]

  pub one_labelled : (count nonterminals i : ℕ) (old new : LabelTable) → LabelledTo (applies texts rules table nodes) count nonterminals old i
      → NodeLabelled (applies texts rules table nodes) old new i → LabelledTo (applies texts rules table nodes) count nonterminals new (i + 1)
  one_labelled count nonterminals i old new so_far one = record {
    nodes_are = one.nodes_are ∙ so_far.nodes_are;
    nonterminals_are = one.nonterminals_are ∙ so_far.nonterminals_are;
    closed = λ m lt. elim (cases_eq m i) [
      | inl same ↦ subst (λ z. ClosedAt (applies texts rules table nodes) 1099511627776 (least_of new) (rule_of new) z) (sym same) one.closed
      | inr differ ↦ closed_kept (applies texts rules table nodes) 1099511627776 (least_of old) (rule_of old) (least_of new) (rule_of new) m (low m)
          (λ q y le. ap cost_in (sym (one.others q y (λ e. (let away = smaller m i lt differ in omega (arith, e, le, away))))))
          (λ y. ap rule_in (sym (one.others m y differ))) (so_far.closed m (smaller m i lt differ))
    ];
    blank = λ m y le. one.others m y (λ e. omega (arith, e, le)) ∙ so_far.blank m y (omega (arith, le));
  }
    where
      smaller : (m i : ℕ) → m < i + 1 → (m ≡ i → ⊥) → m < i
      smaller m i lt differ = grind arith

  chains_only : (n : ℕ) → length nodes ≤ n → (r x k : ℕ) (ps : List Subgoal) → applies texts rules table nodes r n x k ps
      → (y : ℕ) × (ps ≡ record { node = n; nonterminal = y } ∷ [])
  chains_only n past r x k ps a = elim (fits_there a.fits) [
    | inl (y, places) ↦ (y, places)
    | inr lt ↦ absurd (omega (arith, lt, past))
  ]

  pub all_labelled : (few : length nodes ≤ 1048576) (i : ℕ) (labels : LabelTable) → length nodes ≤ i → LabelledTo (applies texts rules table nodes) (length nodes) (length rules.nonterminals) labels i
      → AreLeastAndChosen texts rules table nodes labels
  all_labelled few i labels past so_far =
      let order = accepted_order texts rules table nodes sound forest is in
      let closed = λ (n : ℕ). closed_at n in
      record {
        nodes_are = so_far.nodes_are;
        nonterminals_are = so_far.nonterminals_are;
        each = all_chosen (applies texts rules table nodes) _ _ _ 1099511627776 order (cost_below texts rules table nodes sound forest is few) (least_of labels) (rule_of labels) closed;
      }
    where
      closed_at : (n : ℕ) → ClosedAt (applies texts rules table nodes) 1099511627776 (least_of labels) (rule_of labels) n
      closed_at n = elim (cases_lt n i) [
        | inl lt ↦ so_far.closed n lt
        | inr le ↦ closed_blank (applies texts rules table nodes) 1099511627776 (least_of labels) (rule_of labels) n (chains_only n (omega (arith, le, past)))
            (λ x. ap cost_in (so_far.blank n x (omega (arith, le)))) (λ x. ap rule_in (so_far.blank n x (omega (arith, le))))
      ]
