-- The faults of names, types and counts among the lines of AG.
use Rattle.std.specs.Prelude.{◌≡◌, ℕ, ◌+◌, ◌<◌, true, false, List, [], ◌∷◌, ◌++◌, length, map, Option, Some, None, codes, take, if◌then◌else◌}
use Rattle.ast_types.specs.TypeTable.{Family, NodeType, TypeTable, family_at}
use Rattle.ck_base.specs.Numbered.{met, number_of}
use Rattle.ck_base.specs.declared.fault.Kind.{Kind}
use Rattle.ck_base.specs.declared.fault.Kind.TheVariants.{Limit, Twice, Unknown, Typing}
use Rattle.section_frame.specs.Declares.{Declared, Notation}
use Rattle.section_frame.specs.Words.{IsAgain, IsAmong, IsMissing}
use Rattle.node_model.specs.TypeNames.{names_of_all, names_of_families}
use Rattle.expr_read.specs.Resolving.{has_unknown}
use Rattle.ag_model.specs.Coverage.{Holder}
use Rattle.ag_spec.specs.AgShapes.{AgSaying, SaidAttribute, SaidEquation, AgShape, attribute, equation, pointed}
use Rattle.ag_spec.specs.AgPlaces.{holder_of, is_target_holder}
use Rattle.ag_spec.specs.AgAttributes.{attributes_for, declared_grammar}
use Rattle.ag_spec.specs.AgEquations.{EquationFits}

-- the words that no attribute may be called by
abbrev pub reserved_words : List (List ℕ)
reserved_words =
    codes "int" ∷ codes "bool" ∷ codes "text" ∷ codes "map" ∷ codes "if" ∷ codes "then" ∷ codes "else" ∷ codes "true"
    ∷ codes "false" ∷ codes "line" ∷ codes "col" ∷ codes "empty" ∷ codes "put" ∷ codes "get" ∷ codes "has"
    ∷ codes "size" ∷ codes "_" ∷ []

-- the types that an attribute may have; a family is declared, but no type of attributes
abbrev pub attribute_words : List (List ℕ)
attribute_words = codes "int" ∷ codes "bool" ∷ codes "text" ∷ codes "map" ∷ []

-- how an attribute is called in the section: by its family's name and its own
abbrev pub attribute_called : AgSaying → Option (List ℕ)
attribute_called (attribute said) = Some said.called
attribute_called (equation said) = None

-- the name of an attribute
abbrev pub attribute_name : AgSaying → Option (List ℕ)
attribute_name (attribute said) = Some said.name
attribute_name (equation said) = None

-- the name of an attribute's family
abbrev pub attribute_family : AgSaying → Option (List ℕ)
attribute_family (attribute said) = Some said.family
attribute_family (equation said) = None

-- the families, the types of attributes, and the holders that a line names
abbrev pub families_used : AgSaying → List (List ℕ)
families_used (attribute said) = said.family ∷ []
families_used (equation said) = []

abbrev pub types_used : AgSaying → List (List ℕ)
types_used (attribute said) = said.of ∷ []
types_used (equation said) = []

abbrev pub holders_used : AgSaying → List (List ℕ)
holders_used (attribute said) = []
holders_used (equation said) = said.holder ∷ []

-- the items of a type, called as attributes of its family are
abbrev pub items_called : TypeTable → NodeType → List (List ℕ)
items_called table t = map (λ item. pointed (family_at table.families t.family).name item.name) t.items

-- the same of types
abbrev pub all_items_called : TypeTable → List NodeType → List (List ℕ)
all_items_called table [] = []
all_items_called table (t ∷ ts) = items_called table t ++ all_items_called table ts

-- the items of all types, called as attributes of their families are, each name once
abbrev pub item_names : TypeTable → List (List ℕ)
item_names table = met [] (all_items_called table table.types)

-- the name of a family before others, where it is of the target side
abbrev pub target_then : Family → List (List ℕ) → List (List ℕ)
target_then family more = if family.target then (family.name ∷ more) else more

-- the names of the families of the target side among these
abbrev pub targets_among : List Family → List (List ℕ)
targets_among [] = []
targets_among (f ∷ fs) = target_then f (targets_among fs)

-- the names of the families of the target side, each once
abbrev pub target_families : TypeTable → List (List ℕ)
target_families table = met [] (targets_among table.families)

-- with the line at the place its family has more attributes than a family may have
pub record IsCrowded (table : TypeTable) (ds : List (Declared AgSaying)) (i : ℕ) (said : AgSaying) : Type 0 where
  pub line : SaidAttribute
  pub family : ℕ
  pub is : said ≡ attribute line
  pub number : number_of (names_of_families table) line.family ≡ Some family
  pub more : 16 < length (attributes_for table (take (i + 1) ds) family)

-- the line's expression has a name before parentheses that is neither that of a function nor that of a type
abbrev pub HasUnknown : TypeTable → AgSaying → Type 0
HasUnknown table (attribute said) = ⊥
HasUnknown table (equation said) = has_unknown (names_of_all table) said.value ≡ true

-- among these declarations, over the types, the one at the place has a fault of the kind
pub data AgFault (table : TypeTable) (ds : List (Declared AgSaying)) : Kind → ℕ → AgSaying → Type 0 where
  declared_again : (i : ℕ) (said : AgSaying) → IsAgain attribute_called ds i said → AgFault table ds Twice i said
  is_item : (i : ℕ) (said : AgSaying) → IsAmong attribute_called (item_names table) said → AgFault table ds Twice i said
  reserved_name : (i : ℕ) (said : AgSaying) → IsAmong attribute_name reserved_words said → AgFault table ds Twice i said
  no_family : (i : ℕ) (said : AgSaying) → IsMissing (names_of_families table) (families_used said) → AgFault table ds Unknown i said
  no_type : (i : ℕ) (said : AgSaying) → IsMissing (attribute_words ++ names_of_families table) (types_used said)
      → AgFault table ds Unknown i said
  no_holder : (i : ℕ) (said : AgSaying) → IsMissing (names_of_all table ++ names_of_families table) (holders_used said)
      → AgFault table ds Unknown i said
  no_maker : (i : ℕ) (said : AgSaying) → HasUnknown table said → AgFault table ds Unknown i said
  -- a family as the type of an attribute
  of_nodes : (i : ℕ) (said : AgSaying) → IsMissing attribute_words (types_used said) → AgFault table ds Typing i said
  of_target : (i : ℕ) (said : AgSaying) → IsAmong attribute_family (target_families table) said → AgFault table ds Typing i said
  target_holder : (i : ℕ) (said : SaidEquation) (h : Holder) → holder_of table said.holder ≡ Some h
      → is_target_holder table h ≡ true → AgFault table ds Typing i (equation said)
  no_fit : (i : ℕ) (said : SaidEquation) (h : Holder) → holder_of table said.holder ≡ Some h
      → (EquationFits (declared_grammar table ds) h said → ⊥) → AgFault table ds Typing i (equation said)
  too_many_attributes : (i : ℕ) (said : AgSaying) → IsCrowded table ds i said → AgFault table ds Limit i said

-- the notation of AG, over the types
abbrev pub ag : TypeTable → Notation AgSaying
ag table = record { Shape = AgShape; Fault = AgFault table }
