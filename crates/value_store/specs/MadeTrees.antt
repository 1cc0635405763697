-- Made nodes as trees.
use Rattle.std.specs.Prelude.{ℕ, ◌+◌, List, Option, Some, None, zero, suc}
use Rattle.value_store.specs.declared.value.Value.{Value}

-- a made node: its type, its children and its fields; and a list of such trees
mutual
  pub data MadeTree : Type 0 where
    made : (ty : ℕ) → MadeTrees → (fields : List Value) → MadeTree

  pub data MadeTrees : Type 0 where
    no_trees : MadeTrees
    and_trees : MadeTree → MadeTrees → MadeTrees

-- the type of a made tree
abbrev pub type_of : MadeTree → ℕ
type_of (made ty children fields) = ty

-- the children of a made tree
abbrev pub children_of : MadeTree → MadeTrees
children_of (made ty children fields) = children

-- the fields of a made tree
abbrev pub fields_of : MadeTree → List Value
fields_of (made ty children fields) = fields

-- the tree at a place of the list
abbrev pub child_at : MadeTrees → ℕ → Option MadeTree
child_at no_trees i = None
child_at (and_trees t ts) zero = Some t
child_at (and_trees t ts) (suc i) = child_at ts i

-- how many nodes a tree has; one that stands at two places counts at both
abbrev mutual
  pub node_count : MadeTree → ℕ
  node_count (made ty children fields) = node_count_all children + 1

  pub node_count_all : MadeTrees → ℕ
  node_count_all no_trees = 0
  node_count_all (and_trees t ts) = node_count t + node_count_all ts
