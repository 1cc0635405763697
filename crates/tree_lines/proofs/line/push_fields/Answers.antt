use Rattle.tree_store.specs.Forest.{node_at}
use Rattle.tree_lines.proofs.FieldsSoFar.{field_turn}
use Rattle.tree_lines.proofs.line.push_fields.Goals as goal

pub loop-item-preserved : goal.loop-item-preserved
loop-item-preserved c =
    let turn = field_turn c.args.texts.now.source.now c.args.texts.now.literals.now c.args.items.now (node_at c.args.tree.now c.args.node).fields
    c.loop-item.item-index c.loop-item.i c.args.count c.args.out.now.items c.loop-item.out.items c.item-item.result c.field.result
    c.loop-item-test.true c.item-item.is c.in_default.not-Node c.field.ensures c.loop-item.invariant in
    rw (c.in_ok-push_field.ensures, c.bytes.ensures) turn
