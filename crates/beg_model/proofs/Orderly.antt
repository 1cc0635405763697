-- Accepted rules at a tree have what the laws of covers use.
use Rattle.std.proofs.Common.{◌≡◌, ℕ, ◌+◌, ◌<◌, ◌≤◌, ◌⊎◌, inl, inr, List, [], ◌∷◌, length, refl, sym, subst, ap, ◌∙◌}
use Rattle.std.proofs.lemmas.Option.{slice_get_within}
use Rattle.value_store.specs.declared.value.ValType.{ValType}
use Rattle.ast_types.specs.TypeTable.{IsSound, TypeTable}
use Rattle.tree_store.specs.Forest.{IsForest}
use Rattle.beg_model.specs.Rules.{Pattern, leaf, Rules}
use Rattle.beg_model.specs.Fitting.{Target, Subgoal}
use Rattle.beg_model.specs.Cover.{IsOne, here, there, IsOrderly}
use Rattle.beg_model.specs.Applies.{Applies, Chain, cost_at}
use Rattle.beg_model.specs.Accepted.{StandsAt, leaf_stands, AreRules}
use Rattle.beg_model.proofs.CostBound.{IsMeasured, sizes}
use Rattle.beg_model.proofs.FitTests.{one_application, tested_application}
use Rattle.beg_model.proofs.Operands.{size_of, operands_lie}

leaf_within : {table : TypeTable} {n y : ℕ} {p : Pattern} {t : ValType} {vars : List ValType} → StandsAt table n p t vars → p ≡ leaf y → y < n
leaf_within {n = n} (leaf_stands x f within) e = let same : x ≡ _ = leaf_of e in subst (λ z. z < n) same within
  where
    leaf_of : {a b : ℕ} → leaf a ≡ leaf b → a ≡ b
    leaf_of e = cc
leaf_within _ e = cc

one_of_single : {p q : Subgoal} → IsOne p (q ∷ []) → p ≡ q
one_of_single (here _) = refl
one_of_single (there _ _ rest) = elim rest [ ]

module _ (rules : Rules) (on : Target) (sound : IsSound on.table) (forest : IsForest on.nodes) (are : AreRules on.table rules) where
  -- an application is by a chain rule, or its operands are lower and apart
  pub application_lies : (r n x k : ℕ) (ps : List Subgoal) → Applies rules.list on r n x k ps
      → ((y : ℕ) × (ps ≡ record { node = n; nonterminal = y } ∷ []) × Chain rules.list x y k)
      ⊎ (((q : Subgoal) → IsOne q ps → q.node < n) × (sizes (size_of on.nodes) ps + 1 ≤ size_of on.nodes n))
  application_lies r n x k ps a = elim (operands_lie on forest a.rule.pattern n ps a.env a.fits) [
    | inr lower ↦ inr lower
    | inl (y, is, places, none) ↦ inl (
      y,
      places,
      record { r = r; rule = a.rule; is = a.is; left = a.left; pattern = is; cost = a.cost ∙ ap (λ z. cost_at a.rule z) none },
    )
  ]

  chain_within : (x y k : ℕ) → Chain rules.list x y k → (x < length rules.nonterminals) × (y < length rules.nonterminals)
  chain_within x y k chain =
      let one = are.each chain.r chain.rule chain.is in
      (subst (λ z. z < length rules.nonterminals) chain.left one.left, leaf_within one.pattern chain.pattern)

  pub orderly : IsOrderly (Applies rules.list on) (Chain rules.list) (length rules.list) (length rules.nonterminals)
  orderly = record {
    one = one_application;
    among = λ r n x k ps a. slice_get_within rules.list r a.rule a.is;
    test = tested_application rules.list on sound;
    falls = λ r n x k ps p a among. elim (application_lies r n x k ps a) [
      | inl (y, places, chain) ↦ (let same : p ≡ record { node = n; nonterminal = y } = one_of_single (subst (λ z. IsOne p z) places among) in
          inr (ap (λ (z : Subgoal). z.node) same, subst (λ (z : Subgoal). Chain rules.list x z.nonterminal k) (sym same) chain))
      | inr (lower, few) ↦ inl (lower p among)
    ];
    within = chain_within;
    no_free_cycle = are.no_free_cycle;
  }

  left_within : (r n x k : ℕ) (ps : List Subgoal) → Applies rules.list on r n x k ps → (k ≤ 10000) × (x < length rules.nonterminals)
  left_within r n x k ps a =
      let one = are.each r a.rule a.is in
      (subst (λ z. z ≤ 10000) (sym a.cost) (one.cost a.env), subst (λ z. z < length rules.nonterminals) a.left one.left)

  pub measured : IsMeasured (Applies rules.list on) (Chain rules.list) 10000 (length rules.nonterminals) (size_of on.nodes)
  measured = record {
    at_most = left_within;
    kind = λ r n x k ps a. elim (application_lies r n x k ps a) [
      | inl (y, places, chain) ↦ inl (y, places, chain)
      | inr (lower, few) ↦ inr (few, lower)
    ];
  }
