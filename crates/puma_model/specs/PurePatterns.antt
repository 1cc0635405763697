-- Patterns as pure trees, with the bytes of their strings.
use Rattle.std.specs.Prelude.{ℕ, ◌+◌, ℤ, Bool, Option, Some, None, List, [], ◌∷◌, ◌++◌, map}
use Rattle.value_store.specs.Texts.{text_of}
use Rattle.puma_model.specs.declared.pattern.Pattern.{Pattern}
use Rattle.puma_model.specs.declared.pattern.Pattern.TheOpen.{Pattern-F}
use Rattle.puma_model.specs.declared.pattern.Pattern.TheFolds.{fold-Pattern}

-- a pattern, and a list of them
mutual
  pub data PurePattern : Type 0 where
    any_value : PurePattern
    variable : ℕ → PurePattern
    int_literal : ℤ → PurePattern
    bool_literal : Bool → PurePattern
    text_literal : List ℕ → PurePattern
    tree : ℕ → Option ℕ → PurePatterns → PurePattern

  pub data PurePatterns : Type 0 where
    no_patterns : PurePatterns
    and_pattern : PurePattern → PurePatterns → PurePatterns

abbrev pub patterns_of : List PurePattern → PurePatterns
patterns_of [] = no_patterns
patterns_of (p ∷ ps) = and_pattern p (patterns_of ps)

-- a pattern from those of its parts, with the bytes of texts
abbrev pub node_pattern : List ℕ → List ℕ → Pattern-F PurePattern → PurePattern
node_pattern source literals Pattern-F.Any = any_value
node_pattern source literals (Pattern-F.Bind i) = variable i
node_pattern source literals (Pattern-F.Int z) = int_literal z
node_pattern source literals (Pattern-F.Bool b) = bool_literal b
node_pattern source literals (Pattern-F.Text t) = text_literal (text_of source literals t)
node_pattern source literals (Pattern-F.Tree n bind parts) = tree n bind (patterns_of parts.now)

-- the pattern that a pattern of the program is, where its strings lie in these bytes
abbrev pub pattern : List ℕ → List ℕ → Pattern → PurePattern
pattern source literals = fold-Pattern PurePattern (node_pattern source literals)

abbrev pub pure_patterns : List ℕ → List ℕ → List Pattern → PurePatterns
pure_patterns source literals ps = patterns_of (map (pattern source literals) ps)

abbrev pub one_if_bound : Option ℕ → ℕ
one_if_bound None = 0
one_if_bound (Some i) = 1

-- the numbers of the variables that a pattern binds, a tree's own before those of its parts
abbrev pub own_number : Option ℕ → List ℕ
own_number None = []
own_number (Some i) = i ∷ []

abbrev mutual
  pub bound_in : PurePattern → List ℕ
  bound_in (variable i) = i ∷ []
  bound_in (tree n bind ps) = own_number bind ++ bound_in_all ps
  bound_in _ = []

  -- the same for patterns, one after the other
  pub bound_in_all : PurePatterns → List ℕ
  bound_in_all no_patterns = []
  bound_in_all (and_pattern p ps) = bound_in p ++ bound_in_all ps

-- how many tree patterns there are in a pattern
abbrev mutual
  pub tree_count : PurePattern → ℕ
  tree_count (tree n bind ps) = tree_count_all ps + 1
  tree_count _ = 0

  pub tree_count_all : PurePatterns → ℕ
  tree_count_all no_patterns = 0
  tree_count_all (and_pattern p ps) = tree_count p + tree_count_all ps

-- how many variables a pattern binds
abbrev mutual
  pub variable_count : PurePattern → ℕ
  variable_count any_value = 0
  variable_count (variable i) = 1
  variable_count (int_literal z) = 0
  variable_count (bool_literal b) = 0
  variable_count (text_literal bytes) = 0
  variable_count (tree n bind ps) = one_if_bound bind + variable_count_all ps

  pub variable_count_all : PurePatterns → ℕ
  variable_count_all no_patterns = 0
  variable_count_all (and_pattern p ps) = variable_count p + variable_count_all ps
