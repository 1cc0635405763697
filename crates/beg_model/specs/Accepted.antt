-- The rules, types and tree that a labeller is handed.
use Rattle.std.specs.Prelude.{◌≡◌, ℕ, ◌<◌, ◌≤◌, ◌^◌, List, [], ◌∷◌, ◌++◌, length, false, Some, slice_get, slice_index}
use Rattle.value_store.specs.declared.text.Texts.{Texts}
use Rattle.value_store.specs.declared.value.ValType.{ValType}
use Rattle.value_store.specs.declared.value.ValType.TheVariants as ty
use Rattle.ast_types.specs.TypeTable.{TypeTable, type_at}
use Rattle.tree_store.specs.Conforms.{Conforms}
use Rattle.tree_store.specs.Forest.{Node}
use Rattle.expr_lang.specs.Expression.{Expression}
use Rattle.expr_lang.specs.Typing.{HasType}
use Rattle.value_store.specs.PlainTypes.{IsPlain}
use Rattle.expr_lang.specs.PureValues.{PureValue}
use Rattle.expr_lang.specs.Units.{units_of}
use Rattle.beg_model.specs.Rules.{Pattern, Patterns, leaf, any, bind, number, truth, string, tree, no_pattern, and_pattern, Rule, Rules}
use Rattle.beg_model.specs.RuleMeaning.{rules_in}
use Rattle.beg_model.specs.Fitting.{item_types}
use Rattle.beg_model.specs.Cover.{FreeWay}
use Rattle.beg_model.specs.Applies.{Chain, cost_at}
use Rattle.beg_model.specs.Matching.{leaf_count}
use Rattle.beg_model.specs.Emitting.{AreEmitted}
use Rattle.beg_model.specs.declared.rules.CoverRules.{CoverRules}

mutual
  -- the pattern may stand at an item of this type, where there are so many nonterminals, and binds fields of these types
  pub data StandsAt (table : TypeTable) (nonterminals : ℕ) : Pattern → ValType → List ValType → Type 0 where
    leaf_stands : (x f : ℕ) → x < nonterminals → StandsAt table nonterminals (leaf x) (ty.Node f) []
    any_stands : (t : ValType) → IsPlain t → StandsAt table nonterminals any t []
    bind_stands : (i : ℕ) (t : ValType) → IsPlain t → StandsAt table nonterminals (bind i) t (t ∷ [])
    number_stands : (z : _) → StandsAt table nonterminals (number z) ty.Int []
    truth_stands : (b : _) → StandsAt table nonterminals (truth b) ty.Bool []
    string_stands : (bytes : List ℕ) → StandsAt table nonterminals (string bytes) ty.Text []
    tree_stands : (t f : ℕ) (ps : Patterns) (vars : List ValType) → t < length table.types → (type_at table.types t).family ≡ f
        → StandAt table nonterminals ps (item_types table t) vars → StandsAt table nonterminals (tree t ps) (ty.Node f) vars

  -- the patterns may stand at items of these types, one by one
  pub data StandAt (table : TypeTable) (nonterminals : ℕ) : Patterns → List ValType → List ValType → Type 0 where
    none_stands : StandAt table nonterminals no_pattern [] []
    and_stands : (p : Pattern) (ps : Patterns) (t : ValType) (ts us vs : List ValType) → StandsAt table nonterminals p t us
        → StandAt table nonterminals ps ts vs → StandAt table nonterminals (and_pattern p ps) (t ∷ ts) (us ++ vs)

-- the numbers of the variables that a pattern binds, from left to right
abbrev mutual
  pub bound_in : Pattern → List ℕ
  bound_in (bind i) = i ∷ []
  bound_in (tree t ps) = bound_in_all ps
  bound_in _ = []

  -- the same for patterns, one after the other
  pub bound_in_all : Patterns → List ℕ
  bound_in_all no_pattern = []
  bound_in_all (and_pattern p ps) = bound_in p ++ bound_in_all ps

-- the expression has the type, where the pattern's variables have these; and it takes few units
pub record IsTyped (vars : List ValType) (of : ValType) (e : Expression) : Type 0 where
  pub typed : HasType (record { vars = vars; makers = []; sources = λ node family. false }) e of
  pub few : units_of e < 2 ^ 63

-- a rule as the reader gives it: numbers in range, its condition a bool, its cost at most 10000
pub record IsRule (table : TypeTable) (nonterminals : ℕ) (rule : Rule) : Type 0 where
  pub left : rule.left < nonterminals
  pub family : ℕ
  pub vars : List ValType
  pub pattern : StandsAt table nonterminals rule.pattern (ty.Node family) vars
  pub few_operands : leaf_count rule.pattern ≤ 128
  pub few_vars : length (bound_in rule.pattern) ≤ 128
  pub numbered : (k : ℕ) → k < length (bound_in rule.pattern) → slice_index (bound_in rule.pattern) k ≡ k
  pub test : (e : Expression) → rule.test ≡ Some e → IsTyped vars ty.Bool e
  pub cost : (env : List PureValue) → cost_at rule env ≤ 10000

-- rules as the reader gives them: each one in range, within the limits, and no cycle of chain rules that costs nothing
pub record AreRules (table : TypeTable) (rules : Rules) : Type 0 where
  pub few_rules : length rules.list ≤ 1024
  pub few_nonterminals : length rules.nonterminals ≤ 32
  pub hold_each : length rules.holds ≡ length rules.nonterminals
  pub goal_there : rules.goal < length rules.nonterminals
  pub each : (r : ℕ) (rule : Rule) → slice_get rules.list r ≡ Some rule → IsRule table (length rules.nonterminals) rule
  pub no_free_cycle : (x : ℕ) → FreeWay (Chain rules.list) x x → ⊥
  pub emitted : AreEmitted (λ p. length (bound_in p)) rules

-- rules as the reader gives them for the types, and a tree that conforms to these
pub record IsAccepted (texts : Texts) (rules : CoverRules) (table : TypeTable) (nodes : List Node) : Type 0 where
  pub few_types : length table.types ≤ 512
  pub rules_are : AreRules table (rules_in texts rules)
  pub conforms : Conforms table nodes
