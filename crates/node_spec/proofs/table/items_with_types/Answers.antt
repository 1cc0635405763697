-- Each turn makes one item.
use Rattle.node_spec.proofs.AstTypeTable.{one_item, all_items}
use Rattle.node_spec.proofs.table.items_with_types.Goals as goal

pub loop-item-preserved : goal.loop-item-preserved
loop-item-preserved c =
    one_item c.args.families.now.names c.args.items.now c.loop-item.item-index _ _ c.loop-item.own.items _ c.loop-item-test.true
    c.loop-item.invariant c.in_ok-made.ensures c.in_ok-push.ensures.items

pub returns : goal.returns
returns c =
    all_items c.args.families.now.names c.args.items.now c.loop-item.item-index _ c.loop-item.auto.item-index-end
    c.loop-item-test.false c.loop-item.invariant
