-- The expressions of an attribution have the types of their targets, and mention what their equations use.
use Rattle.std.specs.Prelude.{◌≡◌, ℕ, ◌<◌, ◌++◌, false, List, [], length, map, Some, None, Option, Contains}
use Rattle.value_store.specs.declared.value.ValType.{ValType}
use Rattle.value_store.specs.declared.value.ValType.TheVariants as ty
use Rattle.ast_types.specs.Items.{field_types}
use Rattle.ast_types.specs.TypeTable.{TypeTable, type_at}
use Rattle.expr_lang.specs.Expression.{Expression}
use Rattle.expr_lang.specs.Occurring.{vars_in}
use Rattle.expr_lang.specs.Typing.{Context, HasType}
use Rattle.value_store.specs.PlainTypes.{IsPlain}
use Rattle.ag_model.specs.Attribution.{AttributeGrammar, PureEquation, IsEquation, attribute_at, grammar_of}
use Rattle.ag_model.specs.Complete.{IsComplete}
use Rattle.ag_model.specs.Solution.{expression_at, expressions_of}
use Rattle.ag_model.specs.declared.attribution.Attribute.{Attribute}
use Rattle.ag_model.specs.declared.attribution.Attribution.{Attribution}
use Rattle.ag_model.specs.declared.attribution.Place.{Place}

-- a type that attributes may have
pub data IsAttributeType : ValType → Type 0 where
  of_plain : (t : ValType) → IsPlain t → IsAttributeType t
  of_map : IsAttributeType ty.Map

-- the type of the attribute that is there, else int
abbrev pub type_in : Option Attribute → ValType
type_in None = ty.Int
type_in (Some attribute) = attribute.of

-- the type of the attribute at a place
abbrev pub place_type : AttributeGrammar → ℕ → Place → ValType
place_type g t u = type_in (attribute_at g t u)

-- what the expression of an equation stands in: its variables are what it uses, and then the fields of the type
abbrev pub equation_context : AttributeGrammar → ℕ → PureEquation → Context
equation_context g t q = record {
  vars = map (place_type g t) q.uses ++ field_types (type_at g.table.types t).items;
  makers = [];
  sources = λ node family. false;
}

-- each expression has the type of its equation's target, and mentions each attribute that the equation uses
pub record IsTyped (g : AttributeGrammar) (expressions : List (List Expression)) : Type 0 where
  pub attributes : (t : ℕ) (u : Place) (attribute : Attribute) → attribute_at g t u ≡ Some attribute → IsAttributeType attribute.of
  pub each : (t e : ℕ) (q : PureEquation) → IsEquation g t e q
      → HasType (equation_context g t q) (expression_at expressions t e) (place_type g t q.target)
  pub named : (t e i : ℕ) (q : PureEquation) → IsEquation g t e q → i < length q.uses
      → Contains (vars_in (expression_at expressions t e)) i

-- the attribution is one for these types, where the strings of its expressions lie in these bytes
pub record IsAttributionOf (s l : List ℕ) (table : TypeTable) (a : Attribution) : Type 0 where
  pub complete : IsComplete (grammar_of table a)
  pub typed : IsTyped (grammar_of table a) (expressions_of s l a)
