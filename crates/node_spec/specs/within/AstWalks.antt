-- What the passes over lines and types say of one line, type or item. Only contracts within the crate cite these.
use Rattle.std.specs.Prelude.{◌≡◌, ◌⊎◌, ℕ, ◌<◌, ◌≤◌, Bool, true, false, List, [], ◌∷◌, ◌++◌, length, map, Contains, Option, Some, None, is_some, codes, if◌then◌else◌, slice_get, slice_index, unwrap_or}
use Rattle.ast_types.specs.Items.{child_families, field_types}
use Rattle.ast_types.specs.TypeTable.{NodeType, TypeTable, type_at}
use Rattle.ast_types.specs.declared.item.Item.{Item}
use Rattle.ck_base.specs.Numbered.{number_of}
use Rattle.cfg_model.specs.Cfg.{Rule}
use Rattle.cfg_model.specs.declared.symbol.Sym.TheVariants.{N}
use Rattle.expr_read.specs.TypeWords.{type_of_word}
use Rattle.node_spec.specs.AstShapes.{AstSaying, SaidItem, family, target, a_type, node, build}
use Rattle.node_spec.specs.AstTables.{Row, family_number, item_of, row_in}
use Rattle.node_spec.specs.AstFaults.{item_words}
use Rattle.node_spec.specs.AstBuilds.{only_nonterminal}
use Rattle.node_spec.specs.declared.families.Families.{Families}

-- how many families, and how many types, a line declares
abbrev pub families_said : AstSaying → ℕ
families_said (family name) = 1
families_said (target name) = 1
families_said (a_type name base items) = 0
families_said (node nonterminal name) = 0
families_said (build label e) = 0

-- how many types a line declares
abbrev pub types_said : AstSaying → ℕ
types_said (family name) = 0
types_said (target name) = 0
types_said (a_type name base items) = 1
types_said (node nonterminal name) = 0
types_said (build label e) = 0

-- whether the name is one of the types that an item may have beside families
abbrev pub item_word : List ℕ → Bool
item_word name = is_some (type_of_word name)

-- how many children the item of this type is
abbrev pub child_said : List ℕ → ℕ
child_said name = if item_word name then 0 else 1

-- the type of this number, by names
abbrev pub row_number : List Row → ℕ → Row
row_number rows k = row_in (slice_get rows k)

-- whether a family, by its name, is of the target side
abbrev pub target_of : Families → List ℕ → Bool
target_of families name = unwrap_or (slice_get families.targets.items (family_number families.names name)) false

-- the item is a map, or of a family that isn't of this side
abbrev pub IsWrongItem : Families → Bool → SaidItem → Type 0
IsWrongItem families side item =
    (item.of ≡ codes "map") ⊎ ((Contains item_words item.of → ⊥) × (target_of families item.of ≡ side → ⊥))

-- one of the items is wrong
pub record HasWrongItem (families : Families) (side : Bool) (items : List SaidItem) : Type 0 where
  pub item : SaidItem
  pub among : Contains items item
  pub wrong : IsWrongItem families side item

-- the line, whose type is this one, has a type or a family of the wrong side
abbrev pub IsWrongLine : Families → Row → AstSaying → Type 0
IsWrongLine families row (family name) = ⊥
IsWrongLine families row (target name) = ⊥
IsWrongLine families row (a_type name base items) = HasWrongItem families (target_of families row.family) items
IsWrongLine families row (node nonterminal name) = target_of families name ≡ true
IsWrongLine families row (build label e) = ⊥

-- more than 8 of the items are children, or more than 8 fields
abbrev pub HasTooMany : List SaidItem → Type 0
HasTooMany items =
    (8 < length (child_families (map (item_of []) items))) ⊎ (8 < length (field_types (map (item_of []) items)))

-- the line, behind so many families and types, and whose type is this one, is past a limit
abbrev pub IsPastLimit : ℕ → ℕ → Row → AstSaying → Type 0
IsPastLimit families types row (family name) = 128 ≤ families
IsPastLimit families types row (target name) = 128 ≤ families
IsPastLimit families types row (a_type name base items) = (512 ≤ types) ⊎ HasTooMany row.items
IsPastLimit families types row (node nonterminal name) = ⊥
IsPastLimit families types row (build label e) = ⊥

-- the rule has one nonterminal, and it is of another family than the left side
pub record IsOfOther (families : List ℕ) (rule : Rule) : Type 0 where
  pub place : ℕ
  pub nonterminal : ℕ
  pub only : only_nonterminal rule.right ≡ Some place
  pub is : slice_get rule.right place ≡ Some (N nonterminal)
  pub other : slice_index families nonterminal ≡ slice_index families rule.left → ⊥

-- the rule at this place, whose label isn't among these, has its one nonterminal of another family
pub record JoinsAt (labels built : List (List ℕ)) (rules : List Rule) (families : List ℕ) (r : ℕ) : Type 0 where
  pub label : List ℕ
  pub rule : Rule
  pub of_label : number_of labels label ≡ Some r
  pub at_rule : slice_get rules r ≡ Some rule
  pub unbuilt : number_of built label ≡ None
  pub other : IsOfOther families rule

-- whether there is such a rule
pub data SomeJoins (labels built : List (List ℕ)) (rules : List Rule) (families : List ℕ) : Bool → Type 0 where
  some_rule : (r : ℕ) → JoinsAt labels built rules families r → SomeJoins labels built rules families true
  no_rule_joins : ((r : ℕ) → JoinsAt labels built rules families r → ⊥) → SomeJoins labels built rules families false

-- the table with the family that the line declares, if it does
abbrev pub with_family : TypeTable → AstSaying → TypeTable
with_family table (family name) =
    record { families = table.families ++ record { name = name; target = false } ∷ []; types = table.types }
with_family table (target name) =
    record { families = table.families ++ record { name = name; target = true } ∷ []; types = table.types }
with_family table (a_type name base items) = table
with_family table (node nonterminal name) = table
with_family table (build label e) = table

-- the type's base, if it has one, is among these types, of its family, and gives its first items
abbrev pub FitsOver : List (List ℕ) → List NodeType → Row → Option ℕ → Type 0
FitsOver families types row None = Unit {0}
FitsOver families types row (Some b) =
    (b < length types) × ((type_at types b).family ≡ family_number families row.family)
    × ((own : List Item) × (map (item_of families) row.items ≡ (type_at types b).items ++ own))

-- the table's types hold what a row says
abbrev pub FitsRow : List (List ℕ) → List NodeType → Row → Type 0
FitsRow families types row = FitsOver families types row row.base
