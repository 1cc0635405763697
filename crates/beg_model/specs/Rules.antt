-- Cover rules as pure values, with the bytes of their texts.
use Rattle.std.specs.Prelude.{ℕ, ℤ, Bool, List, Option}
use Rattle.expr_lang.specs.Expression.{Expression}
use Rattle.beg_model.specs.declared.rules.Holding.{Holding}

mutual
  -- a pattern: an operand; any field, one that is bound, or a literal; or a node of a type with a pattern for each item
  pub data Pattern : Type 0 where
    leaf : ℕ → Pattern
    any : Pattern
    bind : ℕ → Pattern
    number : ℤ → Pattern
    truth : Bool → Pattern
    string : List ℕ → Pattern
    tree : ℕ → Patterns → Pattern

  -- patterns, one after the other
  pub data Patterns : Type 0 where
    no_pattern : Patterns
    and_pattern : Pattern → Patterns → Patterns

-- a piece of what a rule emits: bytes, the register of its value, an operand (numbered from 1), or a variable
pub data Emitted : Type 0 where
  bytes : List ℕ → Emitted
  own_register : Emitted
  operand : ℕ → Emitted
  field : ℕ → Emitted

-- a rule: the nonterminal that it covers a node for, its pattern, its condition, if any, and its cost; whether it
-- is EARLY, and what it emits
pub record Rule : Type 0 where
  pub left : ℕ
  pub pattern : Pattern
  pub test : Option Expression
  pub cost : ℕ
  pub early : Bool
  pub emit : List Emitted

-- rules in the order written, with the registers of each class and the nonterminals
pub record Rules : Type 0 where
  pub classes : List (List (List ℕ))
  pub class_names : List (List ℕ)
  pub nonterminals : List (List ℕ)
  pub holds : List Holding
  pub goal : ℕ
  pub labels : List (List ℕ)
  pub list : List Rule
