-- Labels: a cost and a rule for each node and nonterminal that has a cover.
use Rattle.std.specs.Prelude.{◌≡◌, ℕ, ◌+◌, ◌*◌, ◌≤◌, ◌⊎◌, List, [], ◌∷◌, length, Option, Some, None, MatchOption, nat_lt, if◌then◌else◌, slice_get}
use Rattle.value_store.specs.declared.text.Texts.{Texts}
use Rattle.ast_types.specs.TypeTable.{TypeTable}
use Rattle.tree_store.specs.Forest.{Node}
use Rattle.beg_model.specs.Fitting.{Subgoal}
use Rattle.beg_model.specs.Cover.{Application, Cover, Least, Reaches, Chosen}
use Rattle.beg_model.specs.Applies.{applies}
use Rattle.beg_model.specs.declared.rules.CoverRules.{CoverRules}

-- the cost and the rule of a pair
pub record Label : Type 0 where
  pub cost : ℕ
  pub rule : ℕ

-- a label or none for each pair, node after node
pub record LabelTable : Type 0 where
  pub nodes : ℕ
  pub nonterminals : ℕ
  pub labels : List (Option Label)

-- the label of an entry that is there; none past the end
abbrev pub label_in : Option (Option Label) → Option Label
label_in (Some found) = found
label_in None = None

-- the label of node n for the nonterminal x, if it has one
abbrev pub label_at : LabelTable → ℕ → ℕ → Option Label
label_at table n x = if nat_lt x table.nonterminals then label_in (slice_get table.labels (n * table.nonterminals + x)) else None

-- the cost of a label, if there is one
abbrev pub cost_in : Option Label → Option ℕ
cost_in (Some label) = Some label.cost
cost_in None = None

-- the rule of a label, if there is one
abbrev pub rule_in : Option Label → Option ℕ
rule_in (Some label) = Some label.rule
rule_in None = None

-- the cost of node n for the nonterminal x, if the pair has a label
abbrev pub least_of : LabelTable → ℕ → ℕ → Option ℕ
least_of table n x = cost_in (label_at table n x)

-- the rule of node n for the nonterminal x, if the pair has a label
abbrev pub rule_of : LabelTable → ℕ → ℕ → Option ℕ
rule_of table n x = rule_in (label_at table n x)

-- no labels, for so many nodes and nonterminals
pub record IsBlank (nodes nonterminals : ℕ) (table : LabelTable) : Type 0 where
  pub nodes_are : table.nodes ≡ nodes
  pub nonterminals_are : table.nonterminals ≡ nonterminals
  pub none : (n x : ℕ) → label_at table n x ≡ None

-- a label was put for a pair, and the others are as before
pub record Puts (old new : LabelTable) (n x cost rule : ℕ) : Type 0 where
  pub nodes_are : new.nodes ≡ old.nodes
  pub nonterminals_are : new.nonterminals ≡ old.nonterminals
  pub here : label_at new n x ≡ Some (record { cost = cost; rule = rule })
  pub others : (m y : ℕ) → ((m ≡ n) × (y ≡ x)) ⊎ (label_at new m y ≡ label_at old m y)

-- the costs, or the rules, of nodes and nonterminals
abbrev pub Costs : Type 0
Costs = ℕ → ℕ → Option ℕ

-- the sum of the labels of these, which all have one
pub data Sums (costs : Costs) : List Subgoal → ℕ → Type 0 where
  no_subgoal : Sums costs [] 0
  one_more : (n x c d : ℕ) (rest : List Subgoal) → costs n x ≡ Some c → Sums costs rest d
      → Sums costs (record { node = n; nonterminal = x } ∷ rest) (c + d)

-- a pair is right: its label, if it has one, is what its rule gives, and no rule undercuts it, or fills a pair without one
pub record IsRightAt (Applies : Application) (costs rules : Costs) (n x : ℕ) : Type 0 where
  pub own : (c : ℕ) → costs n x ≡ Some c → (r : ℕ) × (k : ℕ) × (e : ℕ) × (ps : List Subgoal)
      × (rules n x ≡ Some r) × Applies r n x k ps × Sums costs ps e × (c ≡ k + e)
  pub under : (r k e : ℕ) (ps : List Subgoal) → Applies r n x k ps → Sums costs ps e
      → (c : ℕ) × (costs n x ≡ Some c) × (c ≤ k + e)

-- all pairs are right
abbrev pub IsConsistent : Application → Costs → Costs → Type 0
IsConsistent Applies costs rules = (n x : ℕ) → IsRightAt Applies costs rules n x

-- the cost is the least one, and the rule is one that reaches it; none where the pair has no cover
abbrev pub IsLeastAndReached : Application → ℕ → ℕ → Option ℕ → Option ℕ → Type 0
IsLeastAndReached Applies n x cost rule = MatchOption cost ((c : ℕ) → Cover Applies n x c → ⊥)
    (λ c. (r : ℕ) × (rule ≡ Some r) × Least Applies n x c × Reaches Applies r n x c)

-- the cost is the least one, and the rule is chosen; none where the pair has no cover
abbrev pub IsLeastAndChosen : Application → ℕ → ℕ → Option ℕ → Option ℕ → Type 0
IsLeastAndChosen Applies n x cost rule = MatchOption cost (((c : ℕ) → Cover Applies n x c → ⊥) × (rule ≡ None))
    (λ c. (r : ℕ) × (rule ≡ Some r) × Chosen Applies n x c r)

-- the labels of a tree: for each node and nonterminal the least cost and the chosen rule
pub record AreLeastAndChosen (texts : Texts) (rules : CoverRules) (table : TypeTable) (nodes : List Node) (labels : LabelTable) : Type 0 where
  pub nodes_are : labels.nodes ≡ length nodes
  pub nonterminals_are : labels.nonterminals ≡ length rules.nonterminals
  pub each : (n x : ℕ) → IsLeastAndChosen (applies texts rules table nodes) n x (least_of labels n x) (rule_of labels n x)
