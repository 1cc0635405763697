-- Each turn notes one line.
use Rattle.std.proofs.Common.{arith, map, refl}
use Rattle.node_spec.specs.within.AstSeen.{declared_by}
use Rattle.node_spec.proofs.AstGathered.{line_at, at_end}
use Rattle.node_spec.proofs.AstFamilies.{no_nodes_yet, node_more, nodes_all}
use Rattle.node_spec.proofs.node_lines.node_lines.Goals as goal

pub loop-line-init : goal.loop-line-init
loop-line-init c =
    no_nodes_yet c.args.families.now.names
    (map declared_by c.args.list.now) _ _ c.new-nonterminals.ensures c.new-numbers.ensures.items

pub note_node-requires : goal.note_node-requires
note_node-requires c =
    let few = c.loop-line.invariant.named.few in let less = c.loop-line-test.true in omega (arith, few, less)

pub loop-line-preserved : goal.loop-line-preserved
loop-line-preserved c =
    let at = line_at c.args.list.now c.loop-line.line-index _ _ refl c.loop-line-test.true in
    node_more c.args.families.now.names _ _ _ _ _ at c.loop-line.invariant _ _ c.in_ok-note_node.ensures

pub returns : goal.returns
returns c =
    let end = at_end _ c.args.list.now c.loop-line.auto.line-index-end c.loop-line-test.false in
    nodes_all _ _ _ _ end c.loop-line.invariant
