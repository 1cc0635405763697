use Rattle.std.proofs.Common.{sym, subst, All, List, [], ◌∷◌, length}
use Rattle.std.proofs.lemmas.List.Elements.{All-append, All-cons, All-nil}
use Rattle.value_store.specs.Slots.{IsKept}
use Rattle.value_store.specs.declared.slot.Slot.{Slot}
use Rattle.value_store.proofs.units.Units.push_part.Goals as goal

pub invariant_of-self : goal.invariant_of-self
invariant_of-self c =
    let kept : Slot → Type 0 = IsKept (length c.self.inside.entries.items) in
    let slots : List Slot = c.self.inside.slots.items in
    subst (λ (ss : List Slot). All kept ss) (sym (rw c.unwrap.ensures at c.push.ensures.items))
    (All-append kept slots (c.slot_of.result ∷ []) c.self.invariant (All-cons kept c.slot_of.result [] (c.slot_of.ensures.kept _) (All-nil kept)))
