-- The number's bit is put into the word of the number.
use Rattle.std.proofs.Common.{◌<◌}
use Rattle.ck_base.proofs.WordsActAsSets.{with_number_adds, with_number_fits}
use Rattle.ck_base.proofs.bits.Bits.add.Goals as goal

pub returns : goal.returns
returns c =
    let below : c.args.i < c.self.inside.size = rw (← c.self.view_is) at c.requires in
    rw (← c.self.view_is) (with_number_adds _ _ _ _ c.self.invariant below c.index_mut.ensures.value)

pub invariant_of-self : goal.invariant_of-self
invariant_of-self c =
    let below : c.args.i < c.self.inside.size = rw (← c.self.view_is) at c.requires in
    with_number_fits _ _ _ _ c.self.invariant below c.index_mut.ensures.value
