use Rattle.std.proofs.Common.{arith}
use Rattle.lalr_look.proofs.NodesOf.{nodes_next, nodes_all}
use Rattle.lalr_look.proofs.lookahead_sets.add_nodes.Goals as goal

pub loop-item-preserved : goal.loop-item-preserved
loop-item-preserved c =
    nodes_next c.args.g.now c.args.core c.args.items.now c.loop-item.item-index _ c.args.nodes.now c.loop-item.nodes c.number_of.new.self c.slot_at.result _
    c.loop-item-test.true c.loop-item.invariant c.slot_at.ensures c.in_ok-number_of.ensures

pub returns-clause-all : goal.returns-clause-all
returns-clause-all c =
    let past = c.loop-item-test.false in
    nodes_all c.args.g.now c.args.core c.args.items.now c.loop-item.item-index c.loop-item.nodes (omega (arith, past)) (c.loop-item.invariant).1
