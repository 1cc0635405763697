-- The items of one type more.
use Rattle.std.proofs.Common.{◌<◌, length, arith}
use Rattle.ag_spec.proofs.ItemNames.{all_met, next_items, room}
use Rattle.ag_spec.proofs.known.items_of.Goals as goal

pub add_items-requires : goal.add_items-requires
add_items-requires c =
    let less : c.loop-t.t < length c.args.types.now.types = omega (arith, c.len-t-end.ensures.is, c.loop-t.auto.t-end, c.loop-t-test.true) in
    rw c.items.ensures (room c.args.types.now c.requires c.loop-t.t _ c.loop-t.invariant less)

pub loop-t-preserved : goal.loop-t-preserved
loop-t-preserved c =
    let less : c.loop-t.t < length c.args.types.now.types = omega (arith, c.len-t-end.ensures.is, c.loop-t.auto.t-end, c.loop-t-test.true) in
    next_items c.args.types.now c.requires c.loop-t.t _ c.loop-t.invariant less _
    (rw (c.items.ensures, c.family_name-family.ensures, c.family_of.ensures.is) at c.in_ok-add_items.ensures)

pub returns : goal.returns
returns c =
    all_met c.args.types.now c.requires c.loop-t.t c.loop-t.names c.loop-t.invariant
    (omega (arith, c.len-t-end.ensures.is, c.loop-t.auto.t-end, c.loop-t-test.false))
