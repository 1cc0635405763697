-- The attributes that the lines of AG declare.
use Rattle.std.specs.Prelude.{ℕ, ◌+◌, ◌==◌, Bool, false, List, [], ◌∷◌, Option, Some, None, if◌then◌else◌}
use Rattle.value_store.specs.declared.value.ValType.{ValType}
use Rattle.value_store.specs.declared.value.ValType.TheVariants as ty
use Rattle.ast_types.specs.TypeTable.{TypeTable, Family}
use Rattle.ck_base.specs.Numbered.{number_of}
use Rattle.section_frame.specs.Declares.{Declared}
use Rattle.node_model.specs.TypeNames.{names_of_families}
use Rattle.expr_read.specs.TypeWords.{type_of_word}
use Rattle.ag_model.specs.Attribution.{AttributeGrammar}
use Rattle.ag_model.specs.declared.attribution.Attribute.{Attribute}
use Rattle.ag_spec.specs.AgShapes.{AgSaying, SaidAttribute, attribute, equation}

-- the type that a word names, else nodes of the family so called; int where that is nothing, which is so in no section
-- without a fault
abbrev pub type_or_nodes : Option ValType → Option ℕ → ValType
type_or_nodes (Some t) f = t
type_or_nodes None (Some f) = ty.Node f
type_or_nodes None None = ty.Int

-- an attribute as the line says, with the type that is written
abbrev pub attribute_by : TypeTable → SaidAttribute → Attribute
attribute_by table said = record {
  name = said.name;
  of = type_or_nodes (type_of_word said.of) (number_of (names_of_families table) said.of);
  synthesized = said.synthesized;
}

-- whether there is this number
abbrev pub is_number : Option ℕ → ℕ → Bool
is_number None x = false
is_number (Some y) x = y == x

-- the attribute of the line before others, where it is one of the family
abbrev pub attribute_then : TypeTable → ℕ → AgSaying → List Attribute → List Attribute
attribute_then table x (attribute said) more =
    if is_number (number_of (names_of_families table) said.family) x then (attribute_by table said ∷ more) else more
attribute_then table x (equation said) more = more

-- the attributes of a family, in the order of their lines
abbrev pub attributes_for : TypeTable → List (Declared AgSaying) → ℕ → List Attribute
attributes_for table [] x = []
attributes_for table (d ∷ ds) x = attribute_then table x d.said (attributes_for table ds x)

-- the attributes of each family, from the one of this number on
abbrev pub rows_from : TypeTable → List (Declared AgSaying) → ℕ → List Family → List (List Attribute)
rows_from table ds x [] = []
rows_from table ds x (f ∷ fs) = attributes_for table ds x ∷ rows_from table ds (x + 1) fs

-- the attributes of each family
abbrev pub attributes_by : TypeTable → List (Declared AgSaying) → List (List Attribute)
attributes_by table ds = rows_from table ds 0 table.families

-- the types and their attributes, before there are equations
abbrev pub declared_grammar : TypeTable → List (Declared AgSaying) → AttributeGrammar
declared_grammar table ds = record { table = table; attributes = attributes_by table ds; equations = [] }
