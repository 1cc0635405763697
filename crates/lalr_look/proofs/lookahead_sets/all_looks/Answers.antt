use Rattle.std.proofs.Common.{◌≤◌, All, subst, sym, ap, ◌∙◌, arith, length}
use Rattle.lalr_look.proofs.NodesOf.{rules_fit, dots_fit, looks_next, looks_all, SetsSoFar}
use Rattle.lalr_look.proofs.lookahead_sets.all_looks.Goals as goal

pub looks_of-requires-clause-rules : goal.looks_of-requires-clause-rules
looks_of-requires-clause-rules c =
    subst (λ l. All (λ item. item.0 ≤ length c.args.g.now.rules) l) (sym c.items.ensures)
    (rules_fit c.args.g.now c.requires.grammar c.requires.short c.requires.productive c.args.cores.now c.requires.cores c.loop-core.core)

pub looks_of-requires-clause-dots : goal.looks_of-requires-clause-dots
looks_of-requires-clause-dots c =
    subst (λ l. All (λ item. item.1 ≤ 1048576) l) (sym c.items.ensures)
    (dots_fit c.args.g.now c.requires.grammar c.requires.short c.requires.productive c.args.cores.now c.requires.cores c.loop-core.core)

pub loop-core-preserved : goal.loop-core-preserved
loop-core-preserved c =
    looks_next c.args.g.now c.args.cores.now c.args.nodes.now c.args.sets.now c.loop-core.core c.loop-core.looks.items c.push.new.self.items c.in_ok-row.row c.loop-core.invariant
    (c.in_ok-row.ensures.long ∙ ap length c.items.ensures)
    (subst (λ l. SetsSoFar c.args.g.now c.args.nodes.now c.args.sets.now c.loop-core.core l c.in_ok-row.row.items) c.items.ensures c.in_ok-row.ensures.sets)
    (c.in_ok-push.ensures).items

pub returns : goal.returns
returns c =
    let past = c.loop-core-test.false in
    let end = c.loop-core.auto.core-end in
    let len = c.len-core-end.ensures in
    looks_all c.args.g.now c.args.cores.now c.args.nodes.now c.args.sets.now _ c.loop-core.core (omega (arith, past, end, len)) c.loop-core.invariant
