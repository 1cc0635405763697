-- The fields that a pattern binds at a node, by the pattern and the tree alone.
use Rattle.std.specs.Prelude.{ℕ, List, [], ◌∷◌, ◌++◌, drop, slice_index, take}
use Rattle.value_store.specs.declared.value.Value.{Value}
use Rattle.tree_store.specs.Forest.{Node, node_at, children_at}
use Rattle.beg_model.specs.Rules.{Pattern, Patterns, leaf, bind, tree, no_pattern, and_pattern}

-- the children that are left behind a pattern: an operand and a tree stand at a child
abbrev pub children_behind : Pattern → List ℕ → List ℕ
children_behind (leaf x) cs = drop 1 cs
children_behind (tree t ps) cs = drop 1 cs
children_behind p cs = cs

-- the fields that are left behind a pattern: all but an operand and a tree stand at a field
abbrev pub fields_behind : Pattern → List Value → List Value
fields_behind (leaf x) vs = vs
fields_behind (tree t ps) vs = vs
fields_behind p vs = drop 1 vs

abbrev mutual
  -- the fields that a pattern binds which stands at the first of these children or of these fields
  pub bound_first : List Node → Pattern → List ℕ → List Value → List Value
  bound_first nodes (tree t ps) cs vs =
      bound_along nodes ps (children_at nodes (slice_index cs 0)) (node_at nodes (slice_index cs 0)).fields
  bound_first nodes (bind i) cs vs = take 1 vs
  bound_first nodes p cs vs = []

  -- the fields that patterns bind which stand at these children and fields, from left to right
  pub bound_along : List Node → Patterns → List ℕ → List Value → List Value
  bound_along nodes no_pattern cs vs = []
  bound_along nodes (and_pattern p ps) cs vs =
      bound_first nodes p cs vs ++ bound_along nodes ps (children_behind p cs) (fields_behind p vs)

-- the fields that a pattern binds at a node, from left to right
abbrev pub bound_at : List Node → Pattern → ℕ → List Value
bound_at nodes p n = bound_first nodes p (n ∷ []) []
