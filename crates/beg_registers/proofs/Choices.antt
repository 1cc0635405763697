-- What is chosen at a place of the tree: it is there, and the labels have it.
use Rattle.std.proofs.Common.{◌≡◌, ℕ, ◌<◌, ◌⊎◌, List, [], ◌∷◌, length, Option, Some, None, option_map, ◌^◌, ◌≤◌, map, Bool, true, false, arith, inl, inr, refl, subst, ap, ◌∙◌}
use Rattle.std.specs.Prelude.{slice_get}
use Rattle.std.proofs.lemmas.Option.{slice_get_within}
use Rattle.value_store.specs.declared.text.Texts.{Texts}
use Rattle.ast_types.specs.TypeTable.{TypeTable}
use Rattle.tree_store.specs.Forest.{Node}
use Rattle.expr_lang.specs.PureValues.{PureValue}
use Rattle.beg_model.specs.Accepted.{IsAccepted, IsRule}
use Rattle.beg_model.specs.Applies.{applies}
use Rattle.beg_model.specs.Cover.{Application, Cover, Covers, Reaches, Chosen}
use Rattle.beg_model.specs.Cover as cover
use Rattle.beg_model.specs.Fitting.{Target, child, Fits}
use Rattle.beg_model.specs.Labels.{LabelTable, AreLeastAndChosen, IsLeastAndChosen, least_of, rule_of}
use Rattle.beg_model.specs.RuleMeaning.{rules_in}
use Rattle.beg_model.specs.Rules.{Pattern}
use Rattle.beg_model.specs.declared.matched.Subgoal.{Subgoal}
use Rattle.beg_model.specs.declared.rules.CoverRules.{CoverRules}
use Rattle.beg_model.specs.Applies.{cost_at}
use Rattle.beg_model.specs.Cover.{Instance, Stands}
use Rattle.beg_model.specs.Fitting.{target, field_value}
use Rattle.beg_model.specs.Matching.{Matches, RuleFitsOrNot}
use Rattle.beg_model.specs.RuleMeaning as meaning
use Rattle.beg_model.specs.Rules.{Rule}
use Rattle.beg_model.specs.declared.rules.CoverRule.{CoverRule}
use Rattle.beg_model.proofs.AcceptedRules.{one_choice, accepted_order, few_standing}
use Rattle.beg_model.proofs.Applied.{applied, not_applied}
use Rattle.beg_model.proofs.ChosenCover.{chosen_cover}
use Rattle.ast_types.specs.TypeTable.{IsSound}
use Rattle.tree_store.specs.Forest.{IsForest}
use Rattle.std.proofs.lemmas.Option.{slice_get-map}
use Rattle.std.proofs.lemmas.List.{length-map}

-- a pattern that fits a node shows the node in the tree, or is a leaf
top_within : {on : Target} {p : Pattern} {n : ℕ} {ops : List Subgoal} {env : List PureValue} → Fits on p (child n) ops env
    → (n < length on.nodes) ⊎ ((y : ℕ) × (ops ≡ record { node = n; nonterminal = y } ∷ []))
top_within {on = on} (Fits.at_tree n t ps parts ops env shows all) = inl (slice_get_within on.nodes n shows.node shows.is)
top_within (Fits.at_leaf n x) = inr (x, refl)

-- the rule on top of a cover applies
pub top_application : {Applies : Application} {r n x c : ℕ} → Reaches Applies r n x c → (k : ℕ) × (ps : List Subgoal) × Applies r n x k ps
top_application (cover.on_top k d ps a below) = (k, ps, a)

first_node : List Subgoal → ℕ
first_node [] = 0
first_node (p ∷ ps) = p.node

node_of : {n m x y : ℕ} {ps : List Subgoal} → record { node = m; nonterminal = y } ∷ ps ≡ record { node = n; nonterminal = x } ∷ [] → m ≡ n
unfolding first_node
node_of e = ap first_node e

module _ (texts : Texts) (rules : CoverRules) (table : TypeTable) (nodes : List Node) where
  mutual
    pub cover_within : {n x c : ℕ} → Cover (applies texts rules table nodes) n x c → n < length nodes
    cover_within (cover.by_rule r n x k c ps a below) = elim (top_within a.fits) [
      | inl lt ↦ lt
      | inr (y, are) ↦ covers_within n y below are
    ]

    covers_within : {ps : List Subgoal} {c : ℕ} (n x : ℕ) → Covers (applies texts rules table nodes) ps c
        → ps ≡ record { node = n; nonterminal = x } ∷ [] → n < length nodes
    covers_within n x cover.no_subgoal e = cc
    covers_within n x (cover.one_more m y c d rest one others) e = subst (λ z. z < length nodes) (node_of e) (cover_within one)

  pub left_within : {n x c r : ℕ} → IsAccepted texts rules table nodes → Chosen (applies texts rules table nodes) n x c r → x < length rules.nonterminals
  left_within {n = n} {x = x} {c = c} {r = r} is chosen =
      let (k, ps, a) = top_application chosen.reaches in
      subst (λ z. z < length rules.nonterminals) a.left (is.rules_are.each r a.rule a.is).left

  label_of_choice : (n x c r : ℕ) (cost rule : Option ℕ) → IsLeastAndChosen (applies texts rules table nodes) n x cost rule
      → Chosen (applies texts rules table nodes) n x c r → rule ≡ Some r
  label_of_choice n x c r None rule (none, no_rule) chosen = absurd (none c chosen.least.reached)
  label_of_choice n x c r (Some d) rule (q, is, other) chosen = let (e, f) = one_choice other chosen in is ∙ ap Some f

  pub chosen_label : (labels : LabelTable) → AreLeastAndChosen texts rules table nodes labels → (n x c r : ℕ) → Chosen (applies texts rules table nodes) n x c r
      → rule_of labels n x ≡ Some r
  chosen_label labels are n x c r chosen = label_of_choice n x c r (least_of labels n x) (rule_of labels n x) (are.each n x) chosen

  pub rule_is : (r : ℕ) (coded : CoverRule) → slice_get rules.rules.items r ≡ Some coded
      → slice_get (rules_in texts rules).list r ≡ Some (meaning.rule_of texts.source.now texts.literals.now coded)
  rule_is r coded is = slice_get-map (meaning.rule_of texts.source.now texts.literals.now) rules.rules.items r
      ∙ ap (option_map (meaning.rule_of texts.source.now texts.literals.now)) is

  same_rule : {o : Option Rule} {a b : Rule} → o ≡ Some a → o ≡ Some b → a ≡ b
  same_rule e f = cc

  -- a chosen rule that is matched at its node applies there
  pub opened : (p : Subgoal) (c r : ℕ) (coded : CoverRule) (found : Matches) (result : Bool) → slice_get rules.rules.items r ≡ Some coded
      → Chosen (applies texts rules table nodes) p.node p.nonterminal c r
      → RuleFitsOrNot (target texts table nodes) (meaning.rule_of texts.source.now texts.literals.now coded) p.node found result
      → applies texts rules table nodes r p.node p.nonterminal
      (cost_at (meaning.rule_of texts.source.now texts.literals.now coded) (map (field_value (target texts table nodes)) found.values)) found.operands
  opened p c r coded found true is chosen fits =
      let (k, ps, a) = top_application chosen.reaches in
      let a2 = applied r p.node (meaning.rule_of texts.source.now texts.literals.now coded) found (rule_is r coded is) fits in
      let left : coded.left ≡ p.nonterminal = ap (λ (z : Rule). z.left) (same_rule (rule_is r coded is) a.is) ∙ a.left in
      subst (λ z. applies texts rules table nodes r p.node z (cost_at (meaning.rule_of texts.source.now texts.literals.now coded)
      (map (field_value (target texts table nodes)) found.values)) found.operands) left a2
  opened p c r coded found false is chosen none =
      let (k, ps, a) = top_application chosen.reaches in
      absurd (not_applied r p.node (meaning.rule_of texts.source.now texts.literals.now coded) found (rule_is r coded is) none p.nonterminal k ps a)

  -- the rule of a choice is there
  pub choice_there : (n x c r : ℕ) → Chosen (applies texts rules table nodes) n x c r → r < length rules.rules.items
  choice_there n x c r chosen =
      let (k, ps, a) = top_application chosen.reaches in
      let lt = slice_get_within (rules_in texts rules).list r a.rule a.is in
      subst (λ z. r < z) (length-map rules.rules.items (meaning.rule_of texts.source.now texts.literals.now)) lt

  -- where a cover is there is the list of the chosen one, and it isn't long
  pub some_list : IsAccepted texts rules table nodes → IsSound table → IsForest nodes → length nodes ≤ 1048576 → (n x c : ℕ)
      → Cover (applies texts rules table nodes) n x c → (list : List Instance) × (tops : List ℕ) × (cost : ℕ)
      × Stands (applies texts rules table nodes) 0 (record { node = n; nonterminal = x } ∷ []) list tops cost × (length list < 2 ^ 32)
  some_list is sound forest few n x c some =
      let (list, tops, cost, stands) = chosen_cover _ _ _ _ (accepted_order texts rules table nodes sound forest is) n x c 0 some in
      let short = few_standing texts rules table nodes sound forest is few n x cost 0 list tops stands in
      (list, tops, cost, stands, omega (arith, short))

  pub rule_typed : IsAccepted texts rules table nodes → (r : ℕ) (coded : CoverRule) → slice_get rules.rules.items r ≡ Some coded
      → (nonterminals : ℕ) × IsRule table nonterminals (meaning.rule_of texts.source.now texts.literals.now coded)
  rule_typed is r coded there = (length rules.nonterminals, is.rules_are.each r (meaning.rule_of texts.source.now texts.literals.now coded) (rule_is r coded there))

  labelled : (n x : ℕ) (cost rule : Option ℕ) → IsLeastAndChosen (applies texts rules table nodes) n x cost rule → (cost ≡ None → ⊥)
      → (c : ℕ) × Cover (applies texts rules table nodes) n x c
  labelled n x None rule none some = absurd (some refl)
  labelled n x (Some d) rule (q, is, chosen) some = (d, chosen.least.reached)

  pub cover_of_label : (labels : LabelTable) → AreLeastAndChosen texts rules table nodes labels → (n x : ℕ) → (least_of labels n x ≡ None → ⊥)
      → (c : ℕ) × Cover (applies texts rules table nodes) n x c
  cover_of_label labels are n x some = labelled n x (least_of labels n x) (rule_of labels n x) (are.each n x) some
