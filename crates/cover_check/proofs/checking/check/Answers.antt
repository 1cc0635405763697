-- One node after the other, up to the last one or the first that isn't right.
use Rattle.std.proofs.Common.{length, sym, subst, arith}
use Rattle.tree_store.specs.Orders.{IsNext}
use Rattle.tree_store.proofs.SomeOrder.{some_preorder}
use Rattle.beg_model.specs.Applies.{applies}
use Rattle.beg_model.specs.Labels.{least_of, rule_of}
use Rattle.beg_model.proofs.CheckedLabels.{checked_labels}
use Rattle.cover_check.specs.Checked.{IsFirstWrong}
use Rattle.cover_check.proofs.PastPairs.{consistent}
use Rattle.cover_check.proofs.Visited.{begin, step, told_wrong, all_right, turns_over, node_there, of_this_root}
use Rattle.cover_check.proofs.checking.check.Goals as goal

pub loop-turn-init : goal.loop-turn-init
loop-turn-init c = begin (applies c.args.texts.now c.args.rules.now c.args.types.now c.args.tree.now) (least_of c.args.labels.now) (rule_of c.args.labels.now) c.args.tree.now c.root-root.result (length c.args.rules.now.nonterminals)

pub check_node-requires-clause-node : goal.check_node-requires-clause-node
check_node-requires-clause-node c =
    let (order, pre) = some_preorder c.args.tree.now c.root-root.result c.len-nodes.ensures.forest in
    node_there (applies c.args.texts.now c.args.rules.now c.args.types.now c.args.tree.now) (least_of c.args.labels.now) (rule_of c.args.labels.now) c.args.tree.now c.root-root.result (length c.args.rules.now.nonterminals) c.loop-turn._turn c.loop-turn.node c.len-nodes.ensures.forest c.root-root.ensures.only c.loop-turn.invariant order pre

pub check_node-requires-clause-under : goal.check_node-requires-clause-under
check_node-requires-clause-under c = c.loop-turn.invariant.under

pub returns-in-Err-clause-told : goal.returns-in-Err-clause-told
returns-in-Err-clause-told c = λ root order only pre.
    (let (same, wrong) = c.in-Err.ensures in
    subst (λ z. IsFirstWrong (applies c.args.texts.now c.args.rules.now c.args.types.now c.args.tree.now) (least_of c.args.labels.now) (rule_of c.args.labels.now) order (length c.args.rules.now.nonterminals) z c.in-Err.bad.nonterminal) (sym same)
    (told_wrong (applies c.args.texts.now c.args.rules.now c.args.types.now c.args.tree.now) (least_of c.args.labels.now) (rule_of c.args.labels.now) c.args.tree.now c.root-root.result (length c.args.rules.now.nonterminals) c.loop-turn._turn c.loop-turn.node c.in-Err.bad.nonterminal c.loop-turn.invariant wrong order
    (of_this_root c.args.tree.now c.root-root.result root order c.root-root.ensures.only only pre)))

pub returns-in-Ok-None-clause-told : goal.returns-in-Ok-None-clause-told
returns-in-Ok-None-clause-told c =
    let (right, behind) = c.in-Ok-None.ensures in
    let (order, pre) = some_preorder c.args.tree.now c.root-root.result c.len-nodes.ensures.forest in
    consistent c.args.texts.now c.args.rules.now c.args.types.now c.args.tree.now c.args.labels.now c.requires.accepted c.requires.nodes c.requires.nonterminals
    (λ n x past. c.node_count-labelled.ensures.none_past n x past)
    (all_right (applies c.args.texts.now c.args.rules.now c.args.types.now c.args.tree.now) (least_of c.args.labels.now) (rule_of c.args.labels.now) c.args.tree.now c.root-root.result (length c.args.rules.now.nonterminals) c.loop-turn._turn c.loop-turn.node c.len-nodes.ensures.forest c.root-root.ensures.only c.loop-turn.invariant right order pre
    (subst (λ z. IsNext order c.loop-turn.node z) c.in-Ok-None.field-0-is (behind order pre)))

pub returns-in-Ok-None-clause-least : goal.returns-in-Ok-None-clause-least
returns-in-Ok-None-clause-least c =
    checked_labels c.args.texts.now c.args.rules.now c.args.types.now c.args.tree.now c.len-types.ensures.sound c.len-nodes.ensures.forest c.requires.accepted
    (least_of c.args.labels.now) (rule_of c.args.labels.now) (returns-in-Ok-None-clause-told c)

pub loop-turn-preserved : goal.loop-turn-preserved
loop-turn-preserved c =
    let (right, behind) = c.in-Ok-Some.ensures in
    let (order, pre) = some_preorder c.args.tree.now c.root-root.result c.len-nodes.ensures.forest in
    step (applies c.args.texts.now c.args.rules.now c.args.types.now c.args.tree.now) (least_of c.args.labels.now) (rule_of c.args.labels.now) c.args.tree.now c.root-root.result (length c.args.rules.now.nonterminals) c.loop-turn._turn c.loop-turn.node c.in-Ok-Some.next c.len-nodes.ensures.forest c.root-root.ensures.only c.loop-turn.invariant right order pre
    (λ o p. subst (λ z. IsNext o c.loop-turn.node z) c.in-Ok-Some.field-0-is (behind o p))

pub returns-clause-told : goal.returns-clause-told
returns-clause-told c =
    let (order, pre) = some_preorder c.args.tree.now c.root-root.result c.len-nodes.ensures.forest in
    absurd (turns_over (applies c.args.texts.now c.args.rules.now c.args.types.now c.args.tree.now) (least_of c.args.labels.now) (rule_of c.args.labels.now) c.args.tree.now c.root-root.result (length c.args.rules.now.nonterminals) c.loop-turn._turn c.loop-turn.node c.len-nodes.ensures.forest c.root-root.ensures.only c.loop-turn.invariant order pre (omega (arith, c.loop-turn-test.false, c.len-nodes.ensures.count)))

pub returns-clause-least : goal.returns-clause-least
returns-clause-least c =
    let (order, pre) = some_preorder c.args.tree.now c.root-root.result c.len-nodes.ensures.forest in
    absurd (turns_over (applies c.args.texts.now c.args.rules.now c.args.types.now c.args.tree.now) (least_of c.args.labels.now) (rule_of c.args.labels.now) c.args.tree.now c.root-root.result (length c.args.rules.now.nonterminals) c.loop-turn._turn c.loop-turn.node c.len-nodes.ensures.forest c.root-root.ensures.only c.loop-turn.invariant order pre (omega (arith, c.loop-turn-test.false, c.len-nodes.ensures.count)))
