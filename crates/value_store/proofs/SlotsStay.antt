-- The units that slots keep stay as they were when an entry is added behind.
use Rattle.std.proofs.Common.{◌≡◌, ℕ, ◌+◌, ◌<◌, List, [], ◌∷◌, ◌++◌, length, map, All, refl, sym, ap, ap₂, ◌∙◌}
use Rattle.std.proofs.lemmas.List.{get_or_append_left}
use Rattle.std.proofs.Math.Seq.{get_or-append_seam}
use Rattle.std.proofs.lemmas.List.Elements.{All-head, All-tail}
use Rattle.value_store.specs.Slots.{unit_in, IsKept, no_entry}
use Rattle.value_store.specs.declared.unit.MapUnit.{MapUnit}
use Rattle.value_store.specs.declared.unit.StoreUnit.{StoreUnit}
use Rattle.value_store.specs.declared.unit.StoreUnit.TheVariants as unit
use Rattle.value_store.specs.declared.slot.Slot.{Slot}
use Rattle.value_store.specs.declared.slot.Slot.TheVariants as slot
use Rattle.value_store.proofs.NodeMade.{map-append}

unit_kept : (entries : List MapUnit) (e : MapUnit) (s : Slot) → IsKept (length entries) s → unit_in (entries ++ e ∷ []) s ≡ unit_in entries s
unit_kept entries e (slot.Entry k) kept = ap unit.Entry (get_or_append_left entries (e ∷ []) no_entry k kept)
unit_kept entries e (slot.Node u) kept = refl
unit_kept entries e (slot.Int z) kept = refl
unit_kept entries e (slot.Bool b) kept = refl
unit_kept entries e (slot.Text t) kept = refl
unit_kept entries e (slot.Map m) kept = refl
unit_kept entries e (slot.Token k) kept = refl
unit_kept entries e (slot.Src n) kept = refl
unit_kept entries e (slot.Made c) kept = refl

pub units_kept : (entries : List MapUnit) (e : MapUnit) (slots : List Slot) → All (IsKept (length entries)) slots
    → map (unit_in (entries ++ e ∷ [])) slots ≡ map (unit_in entries) slots
units_kept entries e [] kept = refl
units_kept entries e (s ∷ slots) kept =
    ap₂ (λ u us. u ∷ us) (unit_kept entries e s (All-head (IsKept (length entries)) s slots kept))
    (units_kept entries e slots (All-tail (IsKept (length entries)) s slots kept))

-- a slot for the new entry stands for it
pub entry_pushed : (entries now : List MapUnit) (e : MapUnit) (slots new : List Slot) (units : List StoreUnit)
    → All (IsKept (length entries)) slots → units ≡ map (unit_in entries) slots → now ≡ entries ++ e ∷ []
    → new ≡ slots ++ slot.Entry (length entries) ∷ [] → map (unit_in now) new ≡ units ++ unit.Entry e ∷ []
entry_pushed entries now e slots new units kept is more pushed =
    ap₂ (λ f ss. map (unit_in f) ss) more pushed
    ∙ map-append (unit_in (entries ++ e ∷ [])) slots (slot.Entry (length entries) ∷ [])
    ∙ ap₂ (λ us u. us ++ u ∷ []) (units_kept entries e slots kept ∙ sym is) (ap unit.Entry (get_or-append_seam entries e [] no_entry))
