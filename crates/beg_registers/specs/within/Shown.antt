-- Patterns of the program that fit a node.
use Rattle.std.specs.Prelude.{◌≡◌, ℕ, List, [], ◌∷◌, map}
use Rattle.value_store.specs.declared.value.Value.{Value}
use Rattle.expr_lang.specs.PureValues.{PureValue}
use Rattle.tree_store.specs.Forest.{Node}
use Rattle.beg_model.specs.Fitting.{Target, Part, child, field, Fits, FitAll, field_value}
use Rattle.beg_model.specs.declared.matched.Subgoal.{Subgoal}
use Rattle.beg_model.specs.RuleMeaning.{pattern_of, patterns_of}
use Rattle.beg_model.specs.declared.rules.CoverPattern.{CoverPattern}

-- the parts are these children and fields, in some order, or the first of them
pub data PartsOf : List Part → List ℕ → List PureValue → Type 0 where
  no_more : (cs : List ℕ) (vs : List PureValue) → PartsOf [] cs vs
  a_child : (c : ℕ) (parts : List Part) (cs : List ℕ) (vs : List PureValue) → PartsOf parts cs vs → PartsOf (child c ∷ parts) (c ∷ cs) vs
  a_field : (v : PureValue) (parts : List Part) (cs : List ℕ) (vs : List PureValue) → PartsOf parts cs vs
      → PartsOf (field v ∷ parts) cs (v ∷ vs)

-- the pattern fits the node
pub record FitsNode (nodes : List Node) (p : CoverPattern) (n : ℕ) : Type 0 where
  pub on : Target
  pub is : on.nodes ≡ nodes
  pub ops : List Subgoal
  pub env : List PureValue
  pub fits : Fits on (pattern_of on.source on.literals p) (child n) ops env

-- the patterns fit these children and fields
pub record FitAlong (nodes : List Node) (ps : List CoverPattern) (cs : List ℕ) (vs : List Value) : Type 0 where
  pub on : Target
  pub is : on.nodes ≡ nodes
  pub parts : List Part
  pub ops : List Subgoal
  pub env : List PureValue
  pub are : PartsOf parts cs (map (field_value on) vs)
  pub fits : FitAll on (patterns_of (map (pattern_of on.source on.literals) ps)) parts ops env
