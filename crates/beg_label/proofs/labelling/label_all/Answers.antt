-- One node more; all of them.
use Rattle.std.proofs.Common.{◌≡◌, ◌<◌, length, arith}
use Rattle.tree_store.specs.Forest.{node_at}
use Rattle.beg_label.proofs.RulesByType.{numbers_there, listed_for, applied_in}
use Rattle.beg_label.proofs.OneNode.{few_rules}
use Rattle.beg_label.proofs.AllLabelled.{one_labelled, all_labelled}
use Rattle.beg_label.proofs.labelling.label_all.Goals as goal

pub label_node-requires-clause-list : goal.label_node-requires-clause-list
label_node-requires-clause-list c =
    let below : c.loop-node.node < length c.args.tree.now = (let test = c.loop-node-test.true in let count = c.len-nodes.ensures.count in omega (arith, test, count)) in
    let ty : c.type_of.result ≡ (node_at c.args.tree.now c.loop-node.node).ty = c.type_of.ensures in
    let within = (c.requires.conforms c.loop-node.node below).type_there in
    numbers_there c.args.texts.now c.args.rules.now c.args.types.now _ _ _ (listed_for c.args.texts.now c.args.rules.now c.args.types.now c.args.tree.now c.loop-node.node c.type_of.result
    c.in_ok-lists.lists.items c.as_slice-lists.result.now c.list_at-list.result.now c.as_slice-lists.ensures.value ty (omega (arith, ty, within)) (c.in_ok-lists.ensures.lists c.args.texts.now) c.list_at-list.ensures)

pub label_node-requires-clause-all : goal.label_node-requires-clause-all
label_node-requires-clause-all c =
    let below : c.loop-node.node < length c.args.tree.now = (let test = c.loop-node-test.true in let count = c.len-nodes.ensures.count in omega (arith, test, count)) in
    let ty : c.type_of.result ≡ (node_at c.args.tree.now c.loop-node.node).ty = c.type_of.ensures in
    let within = (c.requires.conforms c.loop-node.node below).type_there in
    let lists = listed_for c.args.texts.now c.args.rules.now c.args.types.now c.args.tree.now c.loop-node.node c.type_of.result
    c.in_ok-lists.lists.items c.as_slice-lists.result.now c.list_at-list.result.now c.as_slice-lists.ensures.value ty (omega (arith, ty, within)) (c.in_ok-lists.ensures.lists c.args.texts.now) c.list_at-list.ensures in
    λ r x k ps a. applied_in c.args.texts.now c.args.rules.now c.args.types.now c.args.tree.now c.loop-node.node c.list_at-list.result.now below lists r x k ps
    (few_rules c.args.texts.now c.args.rules.now c.args.types.now c.args.tree.now c.len-types.ensures.sound c.len-nodes.ensures.forest c.requires r c.loop-node.node x k ps a).0 a

pub loop-node-preserved : goal.loop-node-preserved
loop-node-preserved c = one_labelled c.args.texts.now c.args.rules.now c.args.types.now c.args.tree.now c.len-types.ensures.sound c.len-nodes.ensures.forest c.requires
    (length c.args.tree.now) (length c.args.rules.now.nonterminals) c.loop-node.node c.loop-node.labels c.label_node.new.labels c.loop-node.invariant c.in_ok-label_node.ensures

pub returns : goal.returns
returns c =
    let past = c.loop-node-test.false in
    let count = c.len-nodes.ensures.count in
    let few = c.len-nodes.ensures.few in
    all_labelled c.args.texts.now c.args.rules.now c.args.types.now c.args.tree.now c.len-types.ensures.sound c.len-nodes.ensures.forest c.requires
    (omega (arith, count, few)) c.loop-node.node c.loop-node.labels (omega (arith, past, count)) c.loop-node.invariant
