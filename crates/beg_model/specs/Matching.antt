-- What matching a rule at a node gives.
use Rattle.std.specs.Prelude.{◌≡◌, ℕ, ◌+◌, ◌++◌, List, Bool, true, false, map}
use Rattle.value_store.specs.declared.value.Value.{Value}
use Rattle.expr_lang.specs.PureValues.{PureValue}
use Rattle.beg_model.specs.Rules.{Pattern, Patterns, leaf, tree, no_pattern, and_pattern, Rule}
use Rattle.beg_model.specs.Fitting.{Target, Part, child, Subgoal, Fits, FitAll, field_value}
use Rattle.beg_model.specs.Applies.{Holds}

-- operands, and values of variables as the program has them
pub record Matches : Type 0 where
  pub operands : List Subgoal
  pub values : List Value

-- how many operands a pattern has
abbrev mutual
  pub leaf_count : Pattern → ℕ
  leaf_count (leaf x) = 1
  leaf_count (tree t ps) = leaf_count_all ps
  leaf_count _ = 0

  -- the same for patterns together
  pub leaf_count_all : Patterns → ℕ
  leaf_count_all no_pattern = 0
  leaf_count_all (and_pattern p ps) = leaf_count p + leaf_count_all ps

-- the pattern fits the part: its operands and variables come behind the others; or it doesn't fit
abbrev pub FitsOrNot : Target → Pattern → Part → Matches → Matches → Bool → Type 0
FitsOrNot on p part old new true = (ops : List Subgoal) × (vs : List Value) × Fits on p part ops (map (field_value on) vs)
    × (new.operands ≡ old.operands ++ ops) × (new.values ≡ old.values ++ vs)
FitsOrNot on p part old new false = (ops : List Subgoal) (env : List PureValue) → Fits on p part ops env → ⊥

-- the same for patterns and parts, one by one
abbrev pub FitAllOrNot : Target → Patterns → List Part → Matches → Matches → Bool → Type 0
FitAllOrNot on ps parts old new true = (ops : List Subgoal) × (vs : List Value) × FitAll on ps parts ops (map (field_value on) vs)
    × (new.operands ≡ old.operands ++ ops) × (new.values ≡ old.values ++ vs)
FitAllOrNot on ps parts old new false = (ops : List Subgoal) (env : List PureValue) → FitAll on ps parts ops env → ⊥

-- the rule's pattern fits the node with these operands and variables, and its condition is true there; or there are
-- no operands and variables with which it is so
abbrev pub RuleFitsOrNot : Target → Rule → ℕ → Matches → Bool → Type 0
RuleFitsOrNot on rule n found true = Fits on rule.pattern (child n) found.operands (map (field_value on) found.values)
    × Holds rule.test (map (field_value on) found.values)
RuleFitsOrNot on rule n found false = (ops : List Subgoal) (env : List PureValue) → Fits on rule.pattern (child n) ops env → Holds rule.test env → ⊥
