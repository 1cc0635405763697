-- The children and the fields among the items of a type.
use Rattle.std.specs.Prelude.{ℕ, List, [], ◌∷◌}
use Rattle.value_store.specs.declared.value.ValType.{ValType}
use Rattle.value_store.specs.declared.value.ValType.TheVariants as ty
use Rattle.ast_types.specs.declared.item.Item.{Item}

-- an item of a family is a child, any other one a field
abbrev pub child_then : ValType → List ℕ → List ℕ
child_then (ty.Node f) fs = f ∷ fs
child_then _ fs = fs

-- a field's type before those that follow; a child has none
abbrev pub field_then : ValType → List ValType → List ValType
field_then (ty.Node f) ts = ts
field_then t ts = t ∷ ts

-- the families of the children, in order
abbrev pub child_families : List Item → List ℕ
child_families [] = []
child_families (i ∷ is) = child_then i.of (child_families is)

-- the types of the fields, in order
abbrev pub field_types : List Item → List ValType
field_types [] = []
field_types (i ∷ is) = field_then i.of (field_types is)
