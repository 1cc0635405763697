use Rattle.std.proofs.Common.{◌≤◌, All, subst, sym, arith, length}
use Rattle.lalr_look.proofs.Looking.{row_low}
use Rattle.lalr_look.proofs.NodesOf.{rules_fit, dots_fit, core_nodes}
use Rattle.lalr_look.proofs.lookahead_sets.nodes_of.Goals as goal

pub add_nodes-requires-clause-rules : goal.add_nodes-requires-clause-rules
add_nodes-requires-clause-rules c =
    subst (λ l. All (λ item. item.0 ≤ length c.args.g.now.rules) l) (sym c.items.ensures)
    (rules_fit c.args.g.now c.requires.grammar c.requires.short c.requires.productive c.args.cores.now c.requires.cores c.loop-core.core)

pub add_nodes-requires-clause-dots : goal.add_nodes-requires-clause-dots
add_nodes-requires-clause-dots c =
    subst (λ l. All (λ item. item.1 ≤ 1048576) l) (sym c.items.ensures)
    (dots_fit c.args.g.now c.requires.grammar c.requires.short c.requires.productive c.args.cores.now c.requires.cores c.loop-core.core)

pub loop-core-preserved : goal.loop-core-preserved
loop-core-preserved c =
    core_nodes c.args.g.now c.args.cores.now c.loop-core.core c.items.result.now c.loop-core.nodes c.add_nodes.new.nodes c.items.ensures c.loop-core.invariant
    c.in_ok-add_nodes.ensures.kept c.in_ok-add_nodes.ensures.all

pub returns : goal.returns
returns c n r d has =
    let past = c.loop-core-test.false in
    let end = c.loop-core.auto.core-end in
    let len = c.len-core-end.ensures in
    let low = row_low c.args.cores.now.items n (r, d) has in
    c.loop-core.invariant n r d (omega (arith, past, end, len, low)) has
