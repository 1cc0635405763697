use Rattle.std.proofs.Common.{sym, ap, ◌∙◌}
use Rattle.value_store.proofs.SlotsStay.{entry_pushed}
use Rattle.value_store.proofs.units.Units.push_entry.Goals as goal

pub returns-clause-units : goal.returns-clause-units
returns-clause-units c = entry_pushed c.self.inside.entries.items _ c.args.entry c.self.inside.slots.items _ c.args.self.now.units c.self.invariant
    (sym (ap (λ s. s.units) c.self.view_is)) (rw c.unwrap.ensures at c.push.ensures.items)
    (rw (c.unwrap-2.ensures, c.len-number.ensures ∙ c.self.inside.entries.ok.0) at c.push-2.ensures.items)
