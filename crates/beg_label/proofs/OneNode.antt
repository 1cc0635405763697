-- The labels of one node of an accepted tree, and of all of them.
use Rattle.std.proofs.Common.{◌≡◌, ℕ, ◌<◌, ◌⊎◌, List, [], ◌∷◌, length, get_or, inl, inr, arith, subst}
use Rattle.std.proofs.lemmas.Option.{slice_get-get_or}
use Rattle.std.proofs.lemmas.List.{length-map}
use Rattle.value_store.specs.declared.text.Texts.{Texts}
use Rattle.ast_types.specs.TypeTable.{IsSound, TypeTable}
use Rattle.tree_store.specs.Forest.{Node, IsForest}
use Rattle.beg_model.specs.declared.matched.Subgoal.{Subgoal}
use Rattle.beg_model.specs.declared.rules.CoverRules.{CoverRules}
use Rattle.beg_model.specs.Accepted.{IsAccepted}
use Rattle.beg_model.specs.Applies.{applies}
use Rattle.beg_model.specs.Cover.{IsOne}
use Rattle.beg_model.specs.Labels.{LabelTable, Costs, least_of}
use Rattle.beg_model.specs.RuleMeaning.{rule_of}
use Rattle.beg_model.proofs.AcceptedRules.{accepted_order, accepted_measure}
use Rattle.beg_label.specs.declared.offers.Offer.{Offer}
use Rattle.beg_label.specs.declared.offers.Best.{Best}
use Rattle.beg_label.specs.within.Offers.{best_at, IsIn, Improves, NoneBetter}
use Rattle.beg_label.specs.within.Collected.{Collected}
use Rattle.beg_label.specs.within.Labelled.{RowPut, NodeLabelled}
use Rattle.beg_label.proofs.RowDone.{RowOver, all_over, clear_over}
use Rattle.beg_label.proofs.NodeClosed.{node_closed}

module _ (texts : Texts) (rules : CoverRules) (table : TypeTable) (nodes : List Node) (sound : IsSound table) (forest : IsForest nodes)
    (is : IsAccepted texts rules table nodes) where
  pub few_rules : (r n x k : ℕ) (ps : List Subgoal) → applies texts rules table nodes r n x k ps → (r < length rules.rules.items) × (r < 4294967295)
  few_rules r n x k ps a =
      let order = accepted_order texts rules table nodes sound forest is in
      let lt = order.among r n x k ps a in
      let few = is.rules_are.few_rules in
      let same = length-map rules.rules.items (rule_of texts.source.now texts.literals.now) in
      (omega (arith, lt, same), omega (arith, lt, few))

  pub lies : (n r x k : ℕ) (ps : List Subgoal) → applies texts rules table nodes r n x k ps
      → ((y : ℕ) × (ps ≡ record { node = n; nonterminal = y } ∷ [])) ⊎ ((q : Subgoal) → IsOne q ps → q.node < n)
  lies n r x k ps a = elim ((accepted_measure texts rules table nodes sound forest is).kind r n x k ps a) [
    | inl (y, places, chain) ↦ inl (y, places)
    | inr (few, lower) ↦ inr lower
  ]

  pub within : (n r x k : ℕ) (ps : List Subgoal) → applies texts rules table nodes r n x k ps → x < length rules.nonterminals
  within n r x k ps a = ((accepted_measure texts rules table nodes sound forest is).at_most r n x k ps a).1

  module _ (n : ℕ) (costs : Costs) (list : List ℕ) (offers all : List Offer) (col : Collected (applies texts rules table nodes) costs n list offers) (alike : all ≡ offers) where
    offer_among : (i : ℕ) (d : Offer) → i < length all → IsIn (get_or all i d) offers
    offer_among i d lt = subst (λ z. IsIn (get_or all i d) z) alike (i, slice_get-get_or all i d lt)

    pub lefts : (width : ℕ) → width ≡ length rules.nonterminals → (i : ℕ) (d : Offer) → i < length all → (get_or all i d).left < width
    lefts width wide i d lt =
        let (r, x, k, ps, a, offer) = col.each (get_or all i d) (offer_among i d lt) in
        let low = within n r x k ps a in let same = offer.left_is in omega (arith, low, same, wide)

    pub numbers : (i : ℕ) (d : Offer) → i < length all → (get_or all i d).rule < 4294967296
    numbers i d lt =
        let (r, x, k, ps, a, offer) = col.each (get_or all i d) (offer_among i d lt) in
        let low = (few_rules r n x k ps a).1 in let same = offer.rule_is in omega (arith, low, same)

    pub row_over : (clear row : List Best) → length clear ≡ length rules.nonterminals → ((x : ℕ) → (best_at clear x).cost ≡ 1099511627776) → Improves all clear row
        → RowOver (applies texts rules table nodes) costs n list offers (length rules.nonterminals) (lies n) (within n) col row
    row_over clear row wide none steps =
        all_over (applies texts rules table nodes) costs n list offers (length rules.nonterminals) (lies n) (within n) col
        (clear_over (applies texts rules table nodes) costs n list offers (length rules.nonterminals) (lies n) (within n) col clear wide none)
        (subst (λ z. Improves z clear row) alike steps)

    pub rule_numbers : (clear row : List Best) → length clear ≡ length rules.nonterminals → ((x : ℕ) → (best_at clear x).cost ≡ 1099511627776) → Improves all clear row
        → (x : ℕ) → (best_at row x).cost < 1099511627776 → (best_at row x).rule < 4294967295
    rule_numbers clear row wide none steps x lt =
        let over = row_over clear row wide none steps in
        let (k, e, ps, a, sums, le) = over.gives x lt in (few_rules (best_at row x).rule n x k ps a).1

  pub node_labelled : (n : ℕ) (list : List ℕ) (offers all : List Offer) (old new : LabelTable) (clear row : List Best)
      → Collected (applies texts rules table nodes) (least_of old) n list offers → all ≡ offers → ((r x k : ℕ) (ps : List Subgoal) → applies texts rules table nodes r n x k ps → IsIn r list)
      → length clear ≡ length rules.nonterminals → ((x : ℕ) → (best_at clear x).cost ≡ 1099511627776) → Improves all clear row → NoneBetter all row
      → RowPut old new n row → old.nonterminals ≡ length rules.nonterminals → NodeLabelled (applies texts rules table nodes) old new n
  node_labelled n list offers all old new clear row col alike whole wide none steps closed put same = record {
    nodes_are = put.nodes_are;
    nonterminals_are = put.nonterminals_are;
    others = put.others;
    closed = node_closed (applies texts rules table nodes) old new n list offers (length rules.nonterminals) (lies n) (within n)
        whole col row (row_over n (least_of old) list offers all col alike clear row wide none steps)
        (subst (λ z. NoneBetter z row) alike closed) put same;
  }
