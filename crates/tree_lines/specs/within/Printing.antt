-- A walk that prints.
use Rattle.std.specs.Prelude.{◌≡◌, ℕ, ◌+◌, ◌-◌, ◌<◌, List, ◌++◌, length, Bool, true, min}
use Rattle.ast_types.specs.TypeTable.{TypeTable, type_at}
use Rattle.expr_lang.specs.PureOf.{pure_fields}
use Rattle.tree_store.specs.Conforms.{Conforms}
use Rattle.tree_store.specs.Forest.{Node, node_at}
use Rattle.tree_lines.specs.TreeText.{field_names, fields_text, line_with}

-- a printer: the types, what appends the rest of a line, the output so far, and how deep the walk is
pub record Printing (X : Type 0) : Type 0 where
  pub table : TypeTable
  pub about : X
  pub output : List ℕ
  pub depth : ℕ

-- what a printer prints by stays
pub record SameBase {X : Type 0} (s t : Printing X) : Type 0 where
  pub table : t.table ≡ s.table
  pub about : t.about ≡ s.about

-- each node is of a type of the table, and the rest of its line can be appended
pub record ArePrintable {X : Type 0} (needs : X → List Node → Type 0) (nodes : List Node) (s : Printing X) : Type 0 where
  pub types_there : (n : ℕ) → n < length nodes → (node_at nodes n).ty < length s.table.types
  pub needed : needs s.about nodes

-- a node is entered: the walk is one deeper, and the line of the node follows, where memory isn't wanting
pub record Enters {X : Type 0} (rest : X → List Node → ℕ → List ℕ) (nodes : List Node) (n : ℕ) (s : Printing X)
    (went_on : Bool) (t : Printing X) : Type 0 where
  pub base : SameBase s t
  pub depth : t.depth ≡ min (s.depth + 1) 4294967295
  pub line : went_on ≡ true → t.output ≡ s.output
      ++ line_with s.table s.depth (node_at nodes n).ty (rest s.about nodes n)

-- a node is left: the walk is one less deep
pub record Leaves {X : Type 0} (nodes : List Node) (n : ℕ) (s : Printing X) (went_on : Bool) (t : Printing X) : Type 0 where
  pub base : SameBase s t
  pub depth : t.depth ≡ s.depth - 1
  pub output : t.output ≡ s.output

-- what fields are printed by
pub record Base : Type 0 where
  pub table : TypeTable
  pub source : List ℕ
  pub literals : List ℕ

-- the fields of a node in print
abbrev pub fields_of_node : Base → List Node → ℕ → List ℕ
fields_of_node base nodes n = fields_text (field_names (type_at base.table.types (node_at nodes n).ty).items)
    (pure_fields base.source base.literals (node_at nodes n).fields)

-- the nodes conform to the types
abbrev pub ConformToBase : Base → List Node → Type 0
ConformToBase base nodes = Conforms base.table nodes
