-- When the cost of a rule may be asked for.
use Rattle.std.specs.Prelude.{ℕ, List, map}
use Rattle.value_store.specs.declared.text.Texts.{Texts}
use Rattle.ast_types.specs.TypeTable.{TypeTable}
use Rattle.tree_store.specs.Conforms.{Conforms}
use Rattle.tree_store.specs.Forest.{Node}
use Rattle.beg_model.specs.Accepted.{IsRule}
use Rattle.beg_model.specs.Fitting.{target, child, Fits, field_value}
use Rattle.beg_model.specs.Matching.{Matches}
use Rattle.beg_model.specs.Rules.{Rule}

-- the rule is one as the reader gives it, and these operands and values of variables are what its pattern has at some node of
-- a tree that conforms to the types
pub record CostMayBeAsked (texts : Texts) (rule : Rule) (found : Matches) : Type 0 where
  pub table : TypeTable
  pub nonterminals : ℕ
  pub nodes : List Node
  pub node : ℕ
  pub rule_is : IsRule table nonterminals rule
  pub conforms : Conforms table nodes
  pub fits : Fits (target texts table nodes) rule.pattern (child node) found.operands (map (field_value (target texts table nodes)) found.values)
