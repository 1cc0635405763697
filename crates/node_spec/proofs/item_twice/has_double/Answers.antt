-- Each turn looks at one item.
use Rattle.std.proofs.Common.{refl, map}
use Rattle.spec_text.proofs.Lists.{map_get, get_at}
use Rattle.node_spec.specs.AstShapes.{SaidItem}
use Rattle.node_spec.specs.within.AstSeen.{item_seen}
use Rattle.node_spec.proofs.AstTwicePasses.{is_double, one_apart}
use Rattle.node_spec.proofs.item_twice.has_double.Goals as goal

pub returns-then-branch : goal.returns-then-branch
returns-then-branch c =
    let at = map_get (λ (x : SaidItem). x.name) (map item_seen c.args.items.now) c.loop-item.item-index _
    (map_get item_seen c.args.items.now c.loop-item.item-index _
    (get_at c.args.items.now c.loop-item.item-index _ c.loop-item-test.true)) in
    (λ is. is_double _ _ _ c.is_met.new.names _ at c.loop-item.invariant _ c.if-branch.true c.in_ok-is_met.ensures, λ has. refl)

pub loop-item-preserved : goal.loop-item-preserved
loop-item-preserved c =
    let at = map_get (λ (x : SaidItem). x.name) (map item_seen c.args.items.now) c.loop-item.item-index _
    (map_get item_seen c.args.items.now c.loop-item.item-index _
    (get_at c.args.items.now c.loop-item.item-index _ c.loop-item-test.true)) in
    one_apart _ _ _ _ _ at c.loop-item.invariant _ c.if-branch.false c.in_ok-is_met.ensures
