-- What the names in AG's equations stand for: who holds an equation, and the attributes at its places.
use Rattle.std.specs.Prelude.{ℕ, Bool, List, [], map, Option, Some, None, slice_get}
use Rattle.value_store.specs.declared.value.ValType.TheVariants as ty
use Rattle.ast_types.specs.Items.{child_families}
use Rattle.ast_types.specs.TypeTable.{TypeTable, type_at, family_at}
use Rattle.ast_types.specs.declared.item.Item.{Item}
use Rattle.ck_base.specs.Numbered.{number_of}
use Rattle.node_model.specs.TypeNames.{names_of_all, names_of_families}
use Rattle.expr_read.specs.Mentions.{Named, by_name, by_dollar, by_pair}
use Rattle.ag_model.specs.Attribution.{AttributeGrammar, attributes_of, attributes_at}
use Rattle.ag_model.specs.Coverage.{Holder, a_type, a_family}
use Rattle.ag_model.specs.Ordered.{child_names}
use Rattle.ag_model.specs.declared.attribution.Attribute.{Attribute}
use Rattle.ag_model.specs.declared.attribution.Place.{Place}
use Rattle.ag_model.specs.declared.attribution.Place.TheVariants.{Own, Child}

-- the type of this number, else the family
abbrev pub type_or_family : Option ℕ → Option ℕ → Option Holder
type_or_family (Some t) f = Some (a_type t)
type_or_family None (Some f) = Some (a_family f)
type_or_family None None = None

-- who holds the equations of this name, if a type or a family is so called
abbrev pub holder_of : TypeTable → List ℕ → Option Holder
holder_of table w = type_or_family (number_of (names_of_all table) w) (number_of (names_of_families table) w)

-- the family of a holder
abbrev pub holder_family : TypeTable → Holder → ℕ
holder_family table (a_type t) = (type_at table.types t).family
holder_family table (a_family f) = f

-- the items that an equation of the holder may name: those of the type; a family has none
abbrev pub holder_items : TypeTable → Holder → List Item
holder_items table (a_type t) = (type_at table.types t).items
holder_items table (a_family f) = []

-- whether the holder is of the target side
abbrev pub is_target_holder : TypeTable → Holder → Bool
is_target_holder table h = (family_at table.families (holder_family table h)).target

-- the names of attributes, in their order
abbrev pub attribute_names : List Attribute → List (List ℕ)
attribute_names attributes = map (λ attribute. attribute.name) attributes

-- the attributes of the child of this number
abbrev pub attributes_below : AttributeGrammar → Holder → ℕ → List Attribute
attributes_below g h c = attributes_at g (slice_get (child_families (holder_items g.table h)) c)

-- the attribute at a place of the holder's equations; None where there is none
abbrev pub attribute_held : AttributeGrammar → Holder → Place → Option Attribute
attribute_held g h (Own a) = slice_get (attributes_of g (holder_family g.table h)) a
attribute_held g h (Child c a) = slice_get (attributes_below g h c) a

-- the place of a number, where there is one
abbrev pub place_by : (ℕ → Place) → Option ℕ → Option Place
place_by at None = None
place_by at (Some a) = Some (at a)

-- the place of a name among the attributes of the child that is there
abbrev pub place_below : AttributeGrammar → Holder → Option ℕ → List ℕ → Option Place
place_below g h None w = None
place_below g h (Some c) w = place_by (Child c) (number_of (attribute_names (attributes_below g h c)) w)

-- the attribute that is named: an own one by its name, one of a child by the child's name and its own
abbrev pub place_named : AttributeGrammar → Holder → Named → Option Place
place_named g h (by_name w) = place_by Own (number_of (attribute_names (attributes_of g (holder_family g.table h))) w)
place_named g h (by_dollar n) = None
place_named g h (by_pair v w) = place_below g h (number_of (child_names (holder_items g.table h)) v) w
