-- Families and types of nodes, and what a type is.
use Rattle.std.specs.Prelude.{◌≡◌, ℕ, ◌^◌, ◌<◌, ◌++◌, List, [], length, Bool, false, Option, Some, None, slice_get}
use Rattle.ast_types.specs.declared.item.Item.{Item}

-- a family: its name, and whether it is of the target side
pub record Family : Type 0 where
  pub name : List ℕ
  pub target : Bool

-- a type: its name, its family, the type that it extends, if any, and its items: the base's, then its own
pub record NodeType : Type 0 where
  pub name : List ℕ
  pub family : ℕ
  pub base : Option ℕ
  pub items : List Item

pub record TypeTable : Type 0 where
  pub families : List Family
  pub types : List NodeType

-- the family that is there, else one without a name, of the source side
abbrev pub family_in : Option Family → Family
family_in None = record { name = []; target = false }
family_in (Some f) = f

-- the family with this number
abbrev pub family_at : List Family → ℕ → Family
family_at families f = family_in (slice_get families f)

-- the type that is there, else one without a name and items
abbrev pub type_in : Option NodeType → NodeType
type_in None = record { name = []; family = 0; base = None; items = [] }
type_in (Some t) = t

-- the type with this number
abbrev pub type_at : List NodeType → ℕ → NodeType
type_at types t = type_in (slice_get types t)

-- the items that a base gives
abbrev pub base_items : List NodeType → Option ℕ → List Item
base_items types None = []
base_items types (Some b) = (type_at types b).items

-- t is b, or extends a type that is b
pub data IsA (types : List NodeType) : ℕ → ℕ → Type 0 where
  itself : (t : ℕ) → IsA types t t
  extends : (t b c : ℕ) → (type_at types t).base ≡ Some b → IsA types b c → IsA types t c

-- a base, if there is one, is among the types
abbrev pub BaseIsThere : List NodeType → Option ℕ → Type 0
BaseIsThere types None = Unit {0}
BaseIsThere types (Some b) = b < length types

-- a base, if there is one, is among the types and of the family
abbrev pub BaseFits : List NodeType → ℕ → Option ℕ → Type 0
BaseFits types family None = Unit {0}
BaseFits types family (Some b) = (b < length types) × ((type_at types b).family ≡ family)

-- each base stands before its type, is of the same family, and gives its first items; each family is there
pub record IsSound (table : TypeTable) : Type 0 where
  pub base_before : (t b : ℕ) → (type_at table.types t).base ≡ Some b → b < t
  pub base_family : (t b : ℕ) → (type_at table.types t).base ≡ Some b
      → (type_at table.types b).family ≡ (type_at table.types t).family
  pub base_first : (t b : ℕ) → (type_at table.types t).base ≡ Some b
      → (own : List Item) × ((type_at table.types t).items ≡ (type_at table.types b).items ++ own)
  pub family_there : (t : ℕ) → t < length table.types → (type_at table.types t).family < length table.families

-- a sound table whose families and types have numbers of 32 bits
pub record IsNumbered (table : TypeTable) : Type 0 where
  pub sound : IsSound table
  pub few_families : length table.families < 2 ^ 32
  pub few_types : length table.types < 2 ^ 32
