-- Each turn counts one item.
use Rattle.std.proofs.Common.{refl}
use Rattle.node_spec.proofs.AstLimits.{one_child, all_children}
use Rattle.node_spec.proofs.limits.count_children.Goals as goal

pub loop-item-preserved : goal.loop-item-preserved
loop-item-preserved c =
    one_child c.args.items.now c.loop-item.item-index c.loop-item.count _ _ _ c.loop-item-test.true c.loop-item.invariant
    c.children_of_item-count.ensures refl

pub returns : goal.returns
returns c =
    all_children c.args.items.now c.loop-item.item-index c.loop-item.count c.loop-item.auto.item-index-end c.loop-item-test.false
    c.loop-item.invariant.0
