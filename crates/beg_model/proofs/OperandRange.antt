-- The operands of a rule that fits are nodes and nonterminals that there are.
use Rattle.std.proofs.Common.{◌≡◌, ℕ, ◌<◌, zero, suc, List, [], ◌∷◌, length, Some, inl, inr, arith, refl, sym, subst}
use Rattle.std.specs.Prelude.{slice_get}
use Rattle.value_store.specs.declared.value.ValType.{ValType}
use Rattle.ast_types.specs.TypeTable.{TypeTable}
use Rattle.tree_store.specs.Forest.{IsForest}
use Rattle.expr_lang.specs.PureValues.{PureValue}
use Rattle.beg_model.specs.Accepted.{IsRule, StandsAt, StandAt, leaf_stands, any_stands, bind_stands, number_stands, truth_stands, string_stands, tree_stands, none_stands, and_stands}
use Rattle.beg_model.specs.Cover.{IsOne, here, there}
use Rattle.beg_model.specs.Fitting.{Subgoal, Target, Part, child, Fits, FitAll}
use Rattle.beg_model.specs.Rules.{Pattern, Patterns, Rule}
use Rattle.beg_model.proofs.Operands.{among_both, at_or_below}

pub is_one : (ps : List Subgoal) (k : ℕ) (p : Subgoal) → slice_get ps k ≡ Some p → IsOne p ps
is_one [] k p e = (cc)
is_one (q ∷ ps) zero p e = let same : q ≡ p = (cc) in subst (λ z. IsOne p (z ∷ ps)) (sym same) (here ps)
is_one (q ∷ ps) (suc k) p e = there q ps (is_one ps k p e)

among_none : {p : Subgoal} → IsOne p [] → ⊥
among_none h = elim h [ ]

among_single : {p q : Subgoal} → IsOne p (q ∷ []) → p ≡ q
among_single (here _) = refl
among_single (there _ _ rest) = absurd (among_none rest)

mutual
  -- operands are nonterminals that there are
  pub operand_within : {on : Target} {table : TypeTable} {nonterminals : ℕ} {p : Pattern} {t : ValType} {vars : List ValType} {part : Part} {ops : List Subgoal} {env : List PureValue}
      (q : Subgoal) → StandsAt table nonterminals p t vars → Fits on p part ops env → IsOne q ops → q.nonterminal < nonterminals
  operand_within {nonterminals = nonterminals} q (leaf_stands x f lt) (Fits.at_leaf n _) one = subst (λ (z : Subgoal). z.nonterminal < nonterminals) (sym (among_single one)) lt
  operand_within q (any_stands t plain) (Fits.at_any v) one = absurd (among_none one)
  operand_within q (bind_stands i t plain) (Fits.at_bind _ v) one = absurd (among_none one)
  operand_within q (number_stands z) (Fits.at_number _ v e) one = absurd (among_none one)
  operand_within q (truth_stands b) (Fits.at_truth _ v e) one = absurd (among_none one)
  operand_within q (string_stands bytes) (Fits.at_string _ v e) one = absurd (among_none one)
  operand_within q (tree_stands t f ps vars lt family stand) (Fits.at_tree n _ _ parts ops env shows fits) one = operands_within q stand fits one

  pub operands_within : {on : Target} {table : TypeTable} {nonterminals : ℕ} {ps : Patterns} {ts vars : List ValType} {parts : List Part} {ops : List Subgoal} {env : List PureValue}
      (q : Subgoal) → StandAt table nonterminals ps ts vars → FitAll on ps parts ops env → IsOne q ops → q.nonterminal < nonterminals
  operands_within q none_stands FitAll.no_part one = absurd (among_none one)
  operands_within q (and_stands p ps t ts us vs first_stands rest_stand) (FitAll.one_more _ _ part parts o1 o2 e1 e2 first later) one = elim (among_both o1 o2 one) [
    | inl in_first ↦ operand_within q first_stands first in_first
    | inr in_rest ↦ operands_within q rest_stand later in_rest
  ]

pub operands_range : (on : Target) (forest : IsForest on.nodes) (nonterminals : ℕ) (rule : Rule) → IsRule on.table nonterminals rule → (n : ℕ) → n < length on.nodes
    → (all ops : List Subgoal) (env : List PureValue) → Fits on rule.pattern (child n) ops env → all ≡ ops → (k : ℕ) (p : Subgoal) → slice_get all k ≡ Some p
    → (p.node < length on.nodes) × (p.nonterminal < nonterminals)
operands_range on forest nonterminals rule is n within all ops env fits same k p at =
    let one = is_one ops k p (subst (λ z. slice_get z k ≡ Some p) same at) in
    let le = at_or_below on forest p fits one in
    (omega (arith, within, le), operand_within p is.pattern fits one)

pub range_of : (nodes nonterminals a b : ℕ) (p : Subgoal) → a ≡ nodes → b ≡ nonterminals → (p.node < nodes) × (p.nonterminal < nonterminals) → (p.node < a) × (p.nonterminal < b)
range_of nodes nonterminals a b p e f (g, h) = (omega (arith, e, g), omega (arith, f, h))
