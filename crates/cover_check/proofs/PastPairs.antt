-- Pairs past the nodes and past the nonterminals are right: they have no label, and no rule gives one.
use Rattle.std.proofs.Common.{◌≡◌, ℕ, ◌<◌, ◌≤◌, List, [], ◌∷◌, length, Some, None, inl, inr, arith, false, sym, ap, ◌∙◌}
use Rattle.std.specs.Prelude.{nat_lt, if◌then◌else◌, slice_get, ◌+◌, ◌*◌}
use Rattle.std.proofs.lemmas.Bool.{cases_lt}
use Rattle.value_store.specs.declared.text.Texts.{Texts}
use Rattle.ast_types.specs.TypeTable.{TypeTable}
use Rattle.tree_store.specs.Forest.{Node}
use Rattle.beg_model.specs.Accepted.{IsAccepted}
use Rattle.beg_model.specs.Applies.{applies}
use Rattle.beg_model.specs.Cover.{Application}
use Rattle.beg_model.specs.declared.matched.Subgoal.{Subgoal}
use Rattle.beg_model.specs.Labels.{Costs, Sums, IsRightAt, IsConsistent, LabelTable, label_at, label_in, cost_in, least_of, rule_of}
use Rattle.beg_model.specs.Labels as labels
use Rattle.beg_model.specs.declared.rules.CoverRules.{CoverRules}
use Rattle.beg_model.proofs.Operands.{fits_there}

-- a pair without a label that no rule gives anything at is right
right_without : (A : Application) (costs rules : Costs) (n x : ℕ) → costs n x ≡ None
    → ((r k e : ℕ) (ps : List Subgoal) → A r n x k ps → Sums costs ps e → ⊥) → IsRightAt A costs rules n x
right_without A costs rules n x none nothing = record {
  own = λ c is. (let no : Some c ≡ None = sym is ∙ none in cc);
  under = λ r k e ps a sums. absurd (nothing r k e ps a sums);
}

abbrev first_node : List Subgoal → ℕ
first_node [] = 0
first_node (p ∷ ps) = p.node

abbrev first_for : List Subgoal → ℕ
first_for [] = 0
first_for (p ∷ ps) = p.nonterminal

unlabelled : (costs : Costs) (n y e : ℕ) (ps : List Subgoal) → costs n y ≡ None → ps ≡ record { node = n; nonterminal = y } ∷ [] → Sums costs ps e → ⊥
unlabelled costs n y e _ none are labels.no_subgoal = cc
unlabelled costs n y e _ none are (labels.one_more m z c d rest is more) =
    let at : m ≡ n = ap first_node are in let for : z ≡ y = ap first_for are in
    let no : Some c ≡ None = sym is ∙ ap (λ i. costs i z) at ∙ ap (costs n) for ∙ none in cc

not_within : (table : LabelTable) (n x : ℕ) → table.nonterminals ≤ x → least_of table n x ≡ None
not_within table n x le = ap (λ b. cost_in (if b then label_in (slice_get table.labels (n * table.nonterminals + x)) else None)) (past x table.nonterminals le)
  where
    past : (a b : ℕ) → b ≤ a → nat_lt a b ≡ false
    past a b le = grind arith

pub consistent : (texts : Texts) (rules : CoverRules) (table : TypeTable) (nodes : List Node) (found : LabelTable) → IsAccepted texts rules table nodes
    → found.nodes ≡ length nodes → found.nonterminals ≡ length rules.nonterminals → ((n x : ℕ) → found.nodes ≤ n → label_at found n x ≡ None)
    → ((n x : ℕ) → n < length nodes → x < length rules.nonterminals → IsRightAt (applies texts rules table nodes) (least_of found) (rule_of found) n x)
    → IsConsistent (applies texts rules table nodes) (least_of found) (rule_of found)
consistent texts rules table nodes found is rows columns past right n x = elim (cases_lt x (length rules.nonterminals)) [
  | inr le ↦ right_without (applies texts rules table nodes) (least_of found) (rule_of found) n x (not_within found n x (omega (arith, le, columns)))
      (λ r k e ps a sums. (let lt = (is.rules_are.each r a.rule a.is).left in let left = a.left in omega (arith, lt, left, le)))
  | inl small ↦ elim (cases_lt n (length nodes)) [
    | inl lt ↦ right n x lt small
    | inr le ↦ right_without (applies texts rules table nodes) (least_of found) (rule_of found) n x (ap cost_in (past n x (omega (arith, le, rows))))
        (λ r k e ps a sums. elim (fits_there a.fits) [
          | inl (y, are) ↦ unlabelled (least_of found) n y e ps (ap cost_in (past n y (omega (arith, le, rows)))) are sums
          | inr lt ↦ omega (arith, lt, le)
        ])
  ]
]
