-- What a section AST declares, as a value, and that it fits a grammar.
use Rattle.std.specs.Prelude.{◌≡◌, ℕ, List, length, map, All, Some, false, slice_get, slice_index}
use Rattle.value_store.specs.declared.value.ValType.{ValType}
use Rattle.value_store.specs.declared.value.ValType.TheVariants as ty
use Rattle.ast_types.specs.FitTypes.{AreTypes}
use Rattle.ast_types.specs.TypeTable.{TypeTable}
use Rattle.expr_lang.specs.Expression.{Expression}
use Rattle.expr_lang.specs.Meaning.{meaning}
use Rattle.expr_lang.specs.Typing.{Context, HasType}
use Rattle.expr_lang.specs.declared.expr.Maker.{Maker}
use Rattle.cfg_model.specs.Cfg.{Cfg, Rule}
use Rattle.cfg_model.specs.declared.symbol.Sym.{Sym}
use Rattle.cfg_model.specs.declared.symbol.Sym.TheVariants.{T, N}
use Rattle.node_model.specs.Makers.{AreMakersOf, IsFamilyOf, IsTypeOf}
use Rattle.node_model.specs.declared.nodes.NodeSpec.{NodeSpec}

-- the types of nodes, the family of each nonterminal, and what each rule builds
pub record Nodes : Type 0 where
  pub table : TypeTable
  pub families : List ℕ
  pub builds : List Expression

-- the same of the program's, where the texts of its expressions lie in these bytes
abbrev pub nodes_of : List ℕ → List ℕ → NodeSpec → Nodes
nodes_of source literals spec = record {
  table = spec.types;
  families = spec.nodes.items;
  builds = map (λ e. meaning source literals e.now) spec.builds.items;
}

-- whether a family is of the source side
abbrev pub IsSourceFamily : TypeTable → ℕ → Type 0
IsSourceFamily table f = IsFamilyOf table false f

-- the type is of a family of the source side
abbrev pub IsSourceType : TypeTable → ℕ → Type 0
IsSourceType table t = IsTypeOf table false t

-- what a symbol of a rule is in the rule's expression: a token, or a node of its family
abbrev pub symbol_type : List ℕ → Sym → ValType
symbol_type families (T t) = ty.Token
symbol_type families (N n) = ty.Node (slice_index families n)

-- there is a maker for each type of the source side, and for no other
abbrev pub AreSourceMakers : TypeTable → List Maker → Type 0
AreSourceMakers table makers = AreMakersOf table false makers

-- what the expression of a rule with these symbols stands in
abbrev pub build_context : List ℕ → List Maker → List Sym → Context
build_context families makers right = record {
  vars = map (symbol_type families) right;
  makers = makers;
  sources = λ node family. false;
}

-- the expression builds, of the symbols, a node of the family
pub record Builds (nodes : Nodes) (right : List Sym) (family : ℕ) (e : Expression) : Type 0 where
  pub makers : List Maker
  pub are : AreSourceMakers nodes.table makers
  pub typed : HasType (build_context nodes.families makers right) e (ty.Node family)

-- the declarations fit the grammar: the types are within the limits, numbers are in range, and each rule builds a
-- node of its left side's family
pub record FitGrammar (g : Cfg) (nodes : Nodes) : Type 0 where
  pub types : AreTypes nodes.table
  pub family_each : length nodes.families ≡ g.nonterminals
  pub of_source : All (IsSourceFamily nodes.table) nodes.families
  pub build_each : length nodes.builds ≡ length g.rules
  pub build : (k : ℕ) (rule : Rule) (e : Expression) → slice_get g.rules k ≡ Some rule → slice_get nodes.builds k ≡ Some e
      → Builds nodes rule.right (slice_index nodes.families rule.left) e
