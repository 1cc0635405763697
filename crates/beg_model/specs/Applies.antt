-- When a rule applies at a node, with which operands and at which cost.
use Rattle.std.specs.Prelude.{◌≡◌, ℕ, List, [], Option, Some, None, true, slice_get}
use Rattle.value_store.specs.declared.text.Texts.{Texts}
use Rattle.ast_types.specs.TypeTable.{TypeTable}
use Rattle.tree_store.specs.Forest.{Node}
use Rattle.expr_lang.specs.Expression.{Expression}
use Rattle.expr_lang.specs.PureValues.{PureValue, bool_in}
use Rattle.expr_lang.specs.ValueOf.{no_tokens, value_of}
use Rattle.beg_model.specs.Rules.{Rule, leaf}
use Rattle.beg_model.specs.RuleMeaning.{rules_in}
use Rattle.beg_model.specs.Fitting.{Target, target, Subgoal, child, Fits}
use Rattle.beg_model.specs.Cover.{Application}
use Rattle.beg_model.specs.declared.rules.CoverRules.{CoverRules}

-- the condition is true, where the variables have these values; it speaks of no tokens
abbrev pub Holds : Option Expression → List PureValue → Type 0
Holds None env = Unit {0}
Holds (Some e) env = bool_in (value_of no_tokens env e) ≡ true

-- the cost of the rule at a node where its variables have these values
abbrev pub cost_at : Rule → List PureValue → ℕ
cost_at rule env = rule.cost

-- rule r covers node n for x at the cost k, given covers of the operands: x is its left side, its pattern fits the
-- node, its condition is true there, and k is its cost there
pub record Applies (rules : List Rule) (on : Target) (r n x k : ℕ) (operands : List Subgoal) : Type 0 where
  pub rule : Rule
  pub is : slice_get rules r ≡ Some rule
  pub left : rule.left ≡ x
  pub env : List PureValue
  pub fits : Fits on rule.pattern (child n) operands env
  pub holds : Holds rule.test env
  pub cost : k ≡ cost_at rule env

-- there is a chain rule x = y of this cost, whatever its condition is
pub record Chain (rules : List Rule) (x y k : ℕ) : Type 0 where
  pub r : ℕ
  pub rule : Rule
  pub is : slice_get rules r ≡ Some rule
  pub left : rule.left ≡ x
  pub pattern : rule.pattern ≡ leaf y
  pub cost : k ≡ cost_at rule []

-- the same for the program's rules, types, tree and texts
abbrev pub applies : Texts → CoverRules → TypeTable → List Node → Application
applies texts rules table nodes = Applies (rules_in texts rules).list (target texts table nodes)
