-- What a tree, an attribution and a plan are for the visits.
use Rattle.std.specs.Prelude.{ℕ, ◌<◌, ◌≤◌, ◌++◌, Bool, List, length, map, slice_index}
use Rattle.value_store.specs.Cells.{Cell}
use Rattle.value_store.specs.declared.value.ValType.{ValType}
use Rattle.value_store.specs.declared.value.Value.{Value}
use Rattle.expr_lang.specs.Expression.{Expression}
use Rattle.expr_lang.specs.OfType.{IsOf}
use Rattle.expr_lang.specs.PureOf.{pure_field}
use Rattle.expr_lang.specs.PureValues.{PureValue}
use Rattle.expr_lang.specs.ValueOf.{no_tokens, value_of}
use Rattle.tree_store.specs.Conforms.{Conforms}
use Rattle.tree_store.specs.Forest.{Node, node_at, children_at, IsForest, OnlyRoot}
use Rattle.ag_model.specs.Attribution.{AttributeGrammar, kinds_of, equations_of}
use Rattle.ag_model.specs.Numbers.{size_of}
use Rattle.ag_model.specs.Plans.{PurePlan, PlanFits, steps_of, sets_of}
use Rattle.ag_model.specs.Solution.{expression_at, type_family, node_of, attribute_of}
use Rattle.ag_model.specs.Complete.{IsComplete}
use Rattle.ag_model.specs.ValueTable.{ValueTable, value_in}
use Rattle.ag_model.specs.declared.attribution.Place.{Place}
use Rattle.ag_model.specs.declared.plan.PlanStep.{PlanStep}
use Rattle.ag_visits.specs.Promise.{InheritsNone, no_sources, attribute_type}
use Rattle.ag_visits.specs.within.VisitedTree.{VisitedTree}
use Rattle.ag_visits.specs.within.Visits.{Known}

-- the tree that is visited, where no family has more attributes than the width
abbrev pub tree_of : AttributeGrammar → ℕ → List Node → VisitedTree
tree_of g width nodes = record {
  size = length nodes;
  width = width;
  arity = λ n. length (children_at nodes n);
  nth = λ n c. slice_index (children_at nodes n) c;
  equations = λ n. equations_of g (node_at nodes n).ty;
}

-- what equation e of a node's type comes to there, by the values that it uses
abbrev pub val_of : List ℕ → List ℕ → List (List Expression) → List Node → ℕ → ℕ → List PureValue → PureValue
val_of s l expressions nodes n e used =
    value_of no_tokens (used ++ map (pure_field s l) (node_at nodes n).fields) (expression_at expressions (node_at nodes n).ty e)

-- the attributes of a node's family, its sets, and the steps of its type
abbrev pub kinds_at : AttributeGrammar → List Node → ℕ → List Bool
kinds_at g nodes n = kinds_of g (type_family g nodes n)

abbrev pub sets_at : AttributeGrammar → PurePlan → List Node → ℕ → List (List ℕ)
sets_at g plan nodes n = sets_of plan (type_family g nodes n)

abbrev pub steps_at : PurePlan → List Node → ℕ → List PlanStep
steps_at plan nodes n = steps_of plan (node_at nodes n).ty

-- the tree is one of the attribution's types, and the plan fits
pub record IsReady (g : AttributeGrammar) (plan : PurePlan) (nodes : List Node) : Type 0 where
  pub complete : IsComplete g
  pub fits : PlanFits g plan
  pub conforms : Conforms g.table nodes
  pub forest : IsForest nodes
  pub root : ℕ
  pub only : OnlyRoot nodes root
  pub inherits : InheritsNone g (type_family g nodes root)

-- no family has more attributes than this
abbrev pub IsWide : AttributeGrammar → ℕ → Type 0
IsWide g width = (x : ℕ) → size_of g x ≤ width

-- values that are evaluated are of their attributes' types; each value is of some type
pub record AreTyped (g : AttributeGrammar) (plan : PurePlan) (nodes : List Node) (cells : List Cell) (table : ValueTable) (position : ℕ → ℕ) : Type 0 where
  pub some : (n a : ℕ) → a < table.width → (t : ValType) × IsOf no_sources cells (value_in table n a) t
  pub known : (n a : ℕ) → Known (tree_of g table.width nodes) (steps_at plan nodes) position n a
      → IsOf no_sources cells (value_in table n a) (attribute_type g nodes n a)

-- the variables of an equation at a node: what it uses, and then the node's fields
abbrev pub env_of : List Node → ValueTable → ℕ → List Place → List Value
env_of nodes table n uses = map (λ u. value_in table (node_of nodes n u) (attribute_of u)) uses ++ (node_at nodes n).fields
