-- Each turn looks at one item.
use Rattle.std.proofs.Common.{map}
use Rattle.spec_text.proofs.Lists.{map_get, get_at}
use Rattle.node_spec.specs.within.AstSeen.{item_seen}
use Rattle.node_spec.proofs.AstTwicePasses.{reserved_here, item_without, none_reserved, map_end}
use Rattle.node_spec.proofs.reserved.has_reserved.Goals as goal

pub returns-then-is_reserved : goal.returns-then-is_reserved
returns-then-is_reserved c =
    let at = map_get item_seen c.args.items.now c.loop-item.item-index _
    (get_at c.args.items.now c.loop-item.item-index _ c.loop-item-test.true) in
    reserved_here (map item_seen c.args.items.now) c.loop-item.item-index _ _ at c.is_reserved.ensures c.if-is_reserved.true

pub loop-item-preserved : goal.loop-item-preserved
loop-item-preserved c =
    let at = map_get item_seen c.args.items.now c.loop-item.item-index _
    (get_at c.args.items.now c.loop-item.item-index _ c.loop-item-test.true) in
    item_without (map item_seen c.args.items.now) c.loop-item.item-index _ _ at c.is_reserved.ensures c.if-is_reserved.false
    c.loop-item.invariant

pub returns : goal.returns
returns c =
    none_reserved (map item_seen c.args.items.now) c.loop-item.item-index
    (map_end item_seen c.args.items.now c.loop-item.item-index c.loop-item.auto.item-index-end c.loop-item-test.false)
    c.loop-item.invariant
