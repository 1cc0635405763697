-- The part at an item, where so many children and fields stand before it.
use Rattle.std.specs.Prelude.{ℕ, ◌+◌, ◌<◌, List, [], ◌∷◌, length, slice_index}
use Rattle.value_store.specs.declared.value.ValType.{ValType}
use Rattle.value_store.specs.declared.value.ValType.TheVariants as ty
use Rattle.expr_lang.specs.PureValues.{PureValue, nth}
use Rattle.beg_model.specs.Fitting.{Part, child, field}

-- the part at an item of this type, where i children and j fields stand before it
abbrev pub part_at : ValType → List ℕ → List PureValue → ℕ → ℕ → Part
part_at (ty.Node f) cs vs i j = child (slice_index cs i)
part_at t cs vs i j = field (nth vs j)

-- the part is there
abbrev pub IsThere : ValType → List ℕ → ℕ → ℕ → ℕ → Type 0
IsThere (ty.Node f) cs fields i j = i < length cs
IsThere t cs fields i j = j < fields

-- how many children stand before the next item
abbrev pub child_after : ValType → ℕ → ℕ
child_after (ty.Node f) i = i + 1
child_after t i = i

-- how many fields stand before the next item
abbrev pub field_after : ValType → ℕ → ℕ
field_after (ty.Node f) j = j
field_after t j = j + 1

-- how many of the items are children
abbrev pub child_count : List ValType → ℕ
child_count [] = 0
child_count (t ∷ ts) = child_after t (child_count ts)

-- how many of the items are fields
abbrev pub field_count : List ValType → ℕ
field_count [] = 0
field_count (t ∷ ts) = field_after t (field_count ts)
