-- When a pattern fits a part of a tree: its operands and the fields that it binds.
use Rattle.std.specs.Prelude.{◌≡◌, ℕ, ℤ, Bool, List, [], ◌∷◌, ◌++◌, Some, map, slice_get}
use Rattle.value_store.specs.declared.text.Texts.{Texts}
use Rattle.value_store.specs.declared.value.Value.{Value}
use Rattle.value_store.specs.declared.value.ValType.{ValType}
use Rattle.value_store.specs.declared.value.ValType.TheVariants as ty
use Rattle.ast_types.specs.TypeTable.{NodeType, TypeTable, type_at, IsA}
use Rattle.tree_store.specs.Forest.{Node}
pub use Rattle.beg_model.specs.declared.matched.Subgoal.{Subgoal}
use Rattle.expr_lang.specs.PureOf.{pure_of}
use Rattle.expr_lang.specs.PureValues.{PureValue, int, bool, text}
use Rattle.beg_model.specs.Rules.{Pattern, Patterns, leaf, any, bind, number, truth, string, tree, no_pattern, and_pattern}

-- what is covered: the nodes of a tree, the types of nodes, and the bytes that texts lie in
pub record Target : Type 0 where
  pub table : TypeTable
  pub nodes : List Node
  pub source : List ℕ
  pub literals : List ℕ

-- the same of what a program has
abbrev pub target : Texts → TypeTable → List Node → Target
target texts table nodes = record { table = table; nodes = nodes; source = texts.source.now; literals = texts.literals.now }

-- what stands at an item of a node: a child, or the value of a field
pub data Part : Type 0 where
  child : ℕ → Part
  field : PureValue → Part

-- the parts of children and fields, in the order of the types of items
abbrev pub parts_by : List ValType → List ℕ → List PureValue → List Part
parts_by [] cs vs = []
parts_by (ty.Node f ∷ ts) [] vs = []
parts_by (ty.Node f ∷ ts) (c ∷ cs) vs = child c ∷ parts_by ts cs vs
parts_by (t ∷ ts) cs [] = []
parts_by (t ∷ ts) cs (v ∷ vs) = field v ∷ parts_by ts cs vs

-- the types of the items of a type
abbrev pub item_types : TypeTable → ℕ → List ValType
item_types table t = map (λ item. item.of) (type_at table.types t).items

-- the value of a field
abbrev pub field_value : Target → Value → PureValue
field_value on v = pure_of on.source on.literals [] v

-- node n is of type t or of one that extends it, and by the items of t it has these parts
pub record Shows (on : Target) (n t : ℕ) (parts : List Part) : Type 0 where
  pub node : Node
  pub is : slice_get on.nodes n ≡ Some node
  pub is_a : IsA on.table.types node.ty t
  pub are : parts ≡ parts_by (item_types on.table t) node.children (map (field_value on) node.fields)

mutual
  -- the pattern fits the part, with these operands and these bound fields, from left to right
  pub data Fits (on : Target) : Pattern → Part → List Subgoal → List PureValue → Type 0 where
    at_leaf : (n x : ℕ) → Fits on (leaf x) (child n) (record { node = n; nonterminal = x } ∷ []) []
    at_any : (v : PureValue) → Fits on any (field v) [] []
    at_bind : (i : ℕ) (v : PureValue) → Fits on (bind i) (field v) [] (v ∷ [])
    at_number : (z : ℤ) (v : PureValue) → v ≡ int z → Fits on (number z) (field v) [] []
    at_truth : (b : Bool) (v : PureValue) → v ≡ bool b → Fits on (truth b) (field v) [] []
    at_string : (bytes : List ℕ) (v : PureValue) → v ≡ text bytes → Fits on (string bytes) (field v) [] []
    at_tree : (n t : ℕ) (ps : Patterns) (parts : List Part) (operands : List Subgoal) (env : List PureValue) → Shows on n t parts
        → FitAll on ps parts operands env → Fits on (tree t ps) (child n) operands env

  -- the patterns fit the parts, one by one
  pub data FitAll (on : Target) : Patterns → List Part → List Subgoal → List PureValue → Type 0 where
    no_part : FitAll on no_pattern [] [] []
    one_more : (p : Pattern) (ps : Patterns) (part : Part) (parts : List Part) (ops others : List Subgoal) (us vs : List PureValue)
        → Fits on p part ops us → FitAll on ps parts others vs
        → FitAll on (and_pattern p ps) (part ∷ parts) (ops ++ others) (us ++ vs)

-- the pattern may fit nodes of this type: it is an operand, or a tree of a type that this is or extends
abbrev pub MayFit : List NodeType → Pattern → ℕ → Type 0
MayFit types (leaf x) ty = Unit {0}
MayFit types (tree t ps) ty = IsA types ty t
MayFit types p ty = ⊥
