-- What fits a node, what a pair of labels has to be, and what may be emitted, tried where the nearest wrong reading differs.
use Rattle.std.proofs.Common.{◌≡◌, ℕ, true, List, [], ◌∷◌, map, Option, Some, None, refl, subst, arith, codes}
use Rattle.value_store.specs.declared.value.ValType.{ValType}
use Rattle.value_store.specs.declared.value.ValType.TheVariants as ty
use Rattle.ast_types.specs.TypeTable.{NodeType, itself, extends}
use Rattle.expr_lang.specs.PureValues.{PureValue}
use Rattle.tree_store.specs.Forest.{Node}
use Rattle.beg_model.specs.Emitting.{MayEmit, operand_may}
use Rattle.beg_model.specs.Fitting.{Target, child, parts_by, field_value, Subgoal, Fits, at_leaf, at_tree, no_part, one_more}
use Rattle.beg_model.specs.Labels.{Costs, IsRightAt, Sums}
use Rattle.beg_model.specs.Labels as labels
use Rattle.beg_model.specs.Rules.{leaf, tree, no_pattern, and_pattern, operand, Rule}
use Rattle.beg_model.specs.declared.rules.Holding.{Holding}
use Rattle.beg_model.proofs.ChosenWrittenLast.{Row, rule_of_c}

-- type 0 has one child, and type 1 extends it by another one
abbrev with_items : Option ℕ → List ValType → NodeType
with_items base items = record { name = codes "t"; family = 0; base = base; items = map (λ of. record { name = codes "x"; of = of }) items }

-- node 2 is of type 1, with the children 0 and 1
abbrev on : Target
on = record {
  table = record {
    families = record { name = codes "f"; target = true } ∷ [];
    types = with_items None (ty.Node 0 ∷ []) ∷ with_items (Some 0) (ty.Node 0 ∷ ty.Node 0 ∷ []) ∷ [];
  };
  nodes = record { ty = 0; children = []; fields = [] } ∷ record { ty = 0; children = []; fields = [] }
      ∷ record { ty = 1; children = 0 ∷ 1 ∷ []; fields = [] } ∷ [];
  source = [];
  literals = [];
}

-- a pattern of the base fits the node by the base's items, so its operand is the first child alone
pub by_items_of_the_base : Fits on (tree 0 (and_pattern (leaf 7) no_pattern)) (child 2) (record { node = 0; nonterminal = 7 } ∷ []) []
by_items_of_the_base = at_tree 2 0 (and_pattern (leaf 7) no_pattern) (child 0 ∷ []) (record { node = 0; nonterminal = 7 } ∷ []) []
    (record { node = record { ty = 1; children = 0 ∷ 1 ∷ []; fields = [] }; is = refl; is_a = extends 1 0 0 refl (itself 0); are = refl })
    (one_more (leaf 7) no_pattern (child 0) [] (record { node = 0; nonterminal = 7 } ∷ []) [] [] [] (at_leaf 0 7) no_part)

-- a pattern of the node's own type needs a pattern for each of its items
pub one_pattern_too_few : (ops : List Subgoal) (env : List PureValue) → Fits on (tree 1 (and_pattern (leaf 7) no_pattern)) (child 2) ops env → ⊥
one_pattern_too_few ops env (at_tree n t ps parts operands vs shows (one_more p qs part rest os others us ws first no_part)) =
    let same : shows.node ≡ record { ty = 1; children = 0 ∷ 1 ∷ []; fields = [] } = cc in
    let are : part ∷ [] ≡ child 0 ∷ child 1 ∷ [] = subst
    (λ (z : Node). part ∷ [] ≡ parts_by (ty.Node 0 ∷ ty.Node 0 ∷ []) z.children (map (field_value on) z.fields)) same shows.are in
    cc

-- a label that is one more than what its rule gives isn't right
abbrev one_more_costs : Costs
one_more_costs n x = Some 2

abbrev rule_k : Costs
rule_k n x = Some 2

pub own_sum_is_missed : IsRightAt Row one_more_costs rule_k 0 2 → ⊥
own_sum_is_missed right =
    let (r, k, e, ps, rule, a, sums, total) = right.own 2 refl in
    let (cost, none) = rule_of_c a in
    let sum = no_sum ps e none sums in
    omega (arith, cost, total, sum)
  where
    no_sum : (ps : List Subgoal) (e : ℕ) → ps ≡ [] → Sums one_more_costs ps e → e ≡ 0
    no_sum ps e none labels.no_subgoal = refl
    no_sum ps e none (labels.one_more n x c d rest is sums) = cc

-- operands are numbered from 1
pub no_operand_0 : (holds : List Holding) (rule : Rule) (vars : ℕ) → MayEmit holds rule vars (operand 0) → ⊥
no_operand_0 holds rule vars may = never 0 may refl
  where
    never : (n : ℕ) → MayEmit holds rule vars (operand n) → n ≡ 0 → ⊥
    never n (operand_may k x there held) none = omega (arith, none)
