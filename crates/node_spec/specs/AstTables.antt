-- The table of types that the lines of AST declare, and the families of nonterminals.
use Rattle.std.specs.Prelude.{ℕ, true, false, List, [], ◌∷◌, ◌++◌, map, Option, Some, None, unwrap_or, if◌then◌else◌, slice_get}
use Rattle.std.specs.Str.{bytes_eq}
use Rattle.value_store.specs.declared.value.ValType.{ValType}
use Rattle.value_store.specs.declared.value.ValType.TheVariants as ty
use Rattle.ast_types.specs.TypeTable.{Family, NodeType, TypeTable}
use Rattle.ast_types.specs.declared.item.Item.{Item}
use Rattle.ck_base.specs.Numbered.{number_of}
use Rattle.section_frame.specs.Declares.{Declared}
use Rattle.expr_read.specs.Spoken.{Spoken}
use Rattle.expr_read.specs.TypeWords.{type_of_word}
use Rattle.node_spec.specs.AstShapes.{AstSaying, SaidItem, family, target, a_type, node, build}

-- the family that a line declares, before those of the lines behind it
abbrev pub family_then : AstSaying → List Family → List Family
family_then (family name) more = record { name = name; target = false } ∷ more
family_then (target name) more = record { name = name; target = true } ∷ more
family_then (a_type name base items) more = more
family_then (node nonterminal name) more = more
family_then (build label e) more = more

-- the families that are declared, in the order of the lines
abbrev pub families_in : List (Declared AstSaying) → List Family
families_in [] = []
families_in (d ∷ ds) = family_then d.said (families_in ds)

-- the names of families, in their order
abbrev pub family_names : List (Declared AstSaying) → List (List ℕ)
family_names ds = map (λ f. f.name) (families_in ds)

-- a type by names: its own, its family's, the number of the type that it extends, if any, and all its items, those
-- of its base first
pub record Row : Type 0 where
  pub name : List ℕ
  pub family : List ℕ
  pub base : Option ℕ
  pub items : List SaidItem

-- the names of rows, in their order
abbrev pub row_names : List Row → List (List ℕ)
row_names rows = map (λ row. row.name) rows

-- the row that is there, else one without a name
abbrev pub row_in : Option Row → Row
row_in None = record { name = []; family = []; base = None; items = [] }
row_in (Some row) = row

-- a type that extends the row of this number; without one, its base is its family
abbrev pub row_over : List Row → List ℕ → List ℕ → List SaidItem → Option ℕ → Row
row_over rows name base own None = record { name = name; family = base; base = None; items = own }
row_over rows name base own (Some b) =
    record { name = name; family = (row_in (slice_get rows b)).family; base = Some b; items = (row_in (slice_get rows b)).items ++ own }

-- the type that a line declares behind these: a base is the first type of its name among them
abbrev pub row_of : List Row → List ℕ → List ℕ → List SaidItem → Row
row_of rows name base own = row_over rows name base own (number_of (row_names rows) base)

-- rows with the one that a line declares
abbrev pub row_after : List Row → AstSaying → List Row
row_after rows (family name) = rows
row_after rows (target name) = rows
row_after rows (a_type name base own) = rows ++ row_of rows name base own ∷ []
row_after rows (node nonterminal name) = rows
row_after rows (build label e) = rows

-- rows with those that lines declare; a base stands in an earlier line
abbrev pub rows_from : List Row → List (Declared AstSaying) → List Row
rows_from rows [] = rows
rows_from rows (d ∷ ds) = rows_from (row_after rows d.said) ds

-- the types that are declared, in the order of the lines
abbrev pub rows_in : List (Declared AstSaying) → List Row
rows_in ds = rows_from [] ds

-- the names of all types that are declared
abbrev pub type_names : List (Declared AstSaying) → List (List ℕ)
type_names ds = row_names (rows_in ds)

-- the number of a family; 0 where it isn't there, which is so in no section without a fault
abbrev pub family_number : List (List ℕ) → List ℕ → ℕ
family_number families name = unwrap_or (number_of families name) 0

-- the type of an item: one of four words, else a family's nodes
abbrev pub item_type : List (List ℕ) → List ℕ → ValType
item_type families name = unwrap_or (type_of_word name) (ty.Node (family_number families name))

-- an item whose type is a plain one or a family's number
abbrev pub item_of : List (List ℕ) → SaidItem → Item
item_of families item = record { name = item.name; of = item_type families item.of }

-- the type of a row
abbrev pub type_of_row : List (List ℕ) → Row → NodeType
type_of_row families row = record {
  name = row.name;
  family = family_number families row.family;
  base = row.base;
  items = map (item_of families) row.items;
}

-- the table of the families and types that are declared
abbrev pub table_by : List (Declared AstSaying) → TypeTable
table_by ds = record {
  families = families_in ds;
  types = map (type_of_row (family_names ds)) (rows_in ds);
}

-- the family that the first NODE line of the nonterminal names
abbrev pub node_or : AstSaying → List ℕ → Option (List ℕ) → Option (List ℕ)
node_or (family name) wanted later = later
node_or (target name) wanted later = later
node_or (a_type name base items) wanted later = later
node_or (node nonterminal name) wanted later = if bytes_eq nonterminal wanted then Some name else later
node_or (build label e) wanted later = later

-- the family that a NODE line gives a nonterminal
abbrev pub node_family : List (Declared AstSaying) → List ℕ → Option (List ℕ)
node_family [] wanted = None
node_family (d ∷ ds) wanted = node_or d.said wanted (node_family ds wanted)

-- the family of a nonterminal: that of its NODE line; without one, that of its own name
abbrev pub family_by : List (Declared AstSaying) → List ℕ → ℕ
family_by ds nonterminal = family_number (family_names ds) (unwrap_or (node_family ds nonterminal) nonterminal)

-- the family of each nonterminal, by number
abbrev pub families_by : List (Declared AstSaying) → List (List ℕ) → List ℕ
families_by ds nonterminals = map (family_by ds) nonterminals

-- the expression of the first BUILD line of the label
abbrev pub build_or : AstSaying → List ℕ → Option Spoken → Option Spoken
build_or (family name) wanted later = later
build_or (target name) wanted later = later
build_or (a_type name base items) wanted later = later
build_or (node nonterminal name) wanted later = later
build_or (build label e) wanted later = if bytes_eq label wanted then Some e else later

-- the expression that a BUILD line gives a label
abbrev pub build_line : List (Declared AstSaying) → List ℕ → Option Spoken
build_line [] wanted = None
build_line (d ∷ ds) wanted = build_or d.said wanted (build_line ds wanted)
