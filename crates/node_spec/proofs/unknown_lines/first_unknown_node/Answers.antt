-- Each turn looks at one line.
use Rattle.std.proofs.Common.{map, refl}
use Rattle.section_frame.proofs.Frame.{first_here, none_at_first, none_more, none_in_all}
use Rattle.node_spec.specs.within.AstSeen.{declared_by}
use Rattle.node_spec.specs.within.AstUnknown.{NodeFault}
use Rattle.node_spec.proofs.AstGathered.{line_at, at_end}
use Rattle.node_spec.proofs.unknown_lines.first_unknown_node.Goals as goal

pub loop-line-init : goal.loop-line-init
loop-line-init c = none_at_first (map declared_by c.args.list.now)
    (NodeFault c.args.nonterminals.now c.args.families.now)

pub returns-then-is_unknown_node : goal.returns-then-is_unknown_node
returns-then-is_unknown_node c =
    let at = line_at c.args.list.now c.loop-line.line-index _ _ refl c.loop-line-test.true in
    first_here (map declared_by c.args.list.now)
    (NodeFault c.args.nonterminals.now c.args.families.now) _ _ c.requires c.loop-line.invariant at
    (c.is_unknown_node.ensures.0 c.if-is_unknown_node.true)

pub loop-line-preserved : goal.loop-line-preserved
loop-line-preserved c =
    let at = line_at c.args.list.now c.loop-line.line-index _ _ refl c.loop-line-test.true in
    none_more (map declared_by c.args.list.now)
    (NodeFault c.args.nonterminals.now c.args.families.now) _ _ c.loop-line.invariant at
    (λ fault. let is = c.is_unknown_node.ensures.1 fault in let e = c.if-is_unknown_node.false in cc)

pub returns : goal.returns
returns c =
    let end = at_end _ c.args.list.now c.loop-line.auto.line-index-end c.loop-line-test.false in
    none_in_all (map declared_by c.args.list.now)
    (NodeFault c.args.nonterminals.now c.args.families.now) _ end c.loop-line.invariant
