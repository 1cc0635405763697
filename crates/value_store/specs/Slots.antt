-- What the slots of a store keep. Only contracts within this crate cite it.
use Rattle.std.specs.Prelude.{ℕ, ◌<◌, pos, List, slice_index_or}
use Rattle.value_store.specs.declared.text.Text.{Text}
use Rattle.value_store.specs.declared.text.TextOf.TheVariants.{Source}
use Rattle.value_store.specs.declared.value.Value.TheVariants as value
use Rattle.value_store.specs.declared.unit.MapUnit.{MapUnit}
use Rattle.value_store.specs.declared.unit.StoreUnit.{StoreUnit}
use Rattle.value_store.specs.declared.unit.StoreUnit.TheVariants as unit
use Rattle.value_store.specs.declared.slot.Slot.{Slot}
use Rattle.value_store.specs.declared.slot.Slot.TheVariants as slot

-- an entry of the empty text
abbrev pub no_entry : MapUnit
no_entry = record { older = 0; key = record { of = Source; from = 0; to = 0 }; number = pos 0; size = 0 }

-- the unit that the slot keeps, with these entries
abbrev pub unit_in : List MapUnit → Slot → StoreUnit
unit_in entries (slot.Entry k) = unit.Entry (slice_index_or entries k no_entry)
unit_in entries (slot.Node u) = unit.Node u
unit_in entries (slot.Int z) = unit.Part (value.Int z)
unit_in entries (slot.Bool b) = unit.Part (value.Bool b)
unit_in entries (slot.Text t) = unit.Part (value.Text t)
unit_in entries (slot.Map m) = unit.Part (value.Map m)
unit_in entries (slot.Token k) = unit.Part (value.Token k)
unit_in entries (slot.Src n) = unit.Part (value.Src n)
unit_in entries (slot.Made c) = unit.Part (value.Made c)

-- the slot's entry, if it has one, is among so many
abbrev pub IsKept : ℕ → Slot → Type 0
IsKept count (slot.Entry k) = k < count
IsKept count _ = Unit {0}
