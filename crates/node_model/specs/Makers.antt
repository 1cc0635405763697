-- What makes the nodes of the types of one side.
use Rattle.std.specs.Prelude.{◌≡◌, ℕ, ◌+◌, ◌<◌, Bool, true, false, not, List, [], ◌∷◌, length, map, Contains, if◌then◌else◌}
use Rattle.ast_types.specs.TypeTable.{NodeType, TypeTable, family_at, type_at}
use Rattle.expr_lang.specs.declared.expr.Maker.{Maker}

-- whether the one side is the other
abbrev pub is_side : Bool → Bool → Bool
is_side side true = side
is_side side false = not side

-- the numbers of the types of the side, from the one of this number on
abbrev pub types_from : TypeTable → Bool → ℕ → List NodeType → List ℕ
types_from table target t [] = []
types_from table target t (row ∷ rows) =
    if is_side (family_at table.families row.family).target target then (t ∷ types_from table target (t + 1) rows)
    else types_from table target (t + 1) rows

-- the types of the side, by number, in their order
abbrev pub types_of_side : TypeTable → Bool → List ℕ
types_of_side table target = types_from table target 0 table.types

-- the names of types, by their numbers
abbrev pub names_of_types : TypeTable → List ℕ → List (List ℕ)
names_of_types table numbers = map (λ t. (type_at table.types t).name) numbers

-- the family is there, and of the side
abbrev pub IsFamilyOf : TypeTable → Bool → ℕ → Type 0
IsFamilyOf table target f = (f < length table.families) × ((family_at table.families f).target ≡ target)

-- the type is there, and of a family of the side
abbrev pub IsTypeOf : TypeTable → Bool → ℕ → Type 0
IsTypeOf table target t = (t < length table.types) × IsFamilyOf table target (type_at table.types t).family

-- the maker makes nodes of the type
pub record IsMakerOf (table : TypeTable) (t : ℕ) (m : Maker) : Type 0 where
  pub type_is : m.ty ≡ t
  pub family_is : m.family ≡ (type_at table.types t).family
  pub items_are : m.items.items ≡ map (λ item. item.of) (type_at table.types t).items

-- there is a maker for each type of the side, and for no other
pub record AreMakersOf (table : TypeTable) (target : Bool) (makers : List Maker) : Type 0 where
  pub each : (m : Maker) → Contains makers m → (t : ℕ) × IsTypeOf table target t × IsMakerOf table t m
  pub all : (t : ℕ) → IsTypeOf table target t → (m : Maker) × Contains makers m × IsMakerOf table t m

-- each maker makes nodes of a type that there is, of either side
abbrev pub AreMakers : TypeTable → List Maker → Type 0
AreMakers table makers = (m : Maker) → Contains makers m → (t : ℕ) × (t < length table.types) × IsMakerOf table t m
