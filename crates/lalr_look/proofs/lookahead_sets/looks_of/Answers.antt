use Rattle.std.proofs.Common.{subst, sym, ◌∙◌, arith, Contains, get_or}
use Rattle.std.proofs.lemmas.List.{get_or_default}
use Rattle.std.proofs.lemmas.Option.{slice_get-get_or, slice_get_within}
use Rattle.lalr_look.specs.within.Flow.{no_set}
use Rattle.lalr_look.proofs.Turns.{contained}
use Rattle.lalr_look.proofs.NodesOf.{sets_next, node_set}
use Rattle.lalr_look.proofs.lookahead_sets.looks_of.Goals as goal

pub find-node-requires : goal.find-node-requires
find-node-requires c =
    let item = get_or c.args.items.now c.loop-item.item-index (0, 0) in
    subst (λ s. Contains c.args.nodes.now (c.args.core, s)) (sym c.slot_at.ensures)
    (c.requires.nodes (item.0) (item.1) (contained c.args.items.now c.loop-item.item-index item (slice_get-get_or c.args.items.now c.loop-item.item-index (0, 0) c.loop-item-test.true)))

pub bounds-sets-node : goal.bounds-sets-node
bounds-sets-node c =
    let low = slice_get_within c.args.nodes.now c.find-node.result (c.args.core, c.slot_at.result) c.find-node.ensures.there in
    let size = c.requires.sets in
    omega (arith, low, size)

pub loop-item-preserved : goal.loop-item-preserved
loop-item-preserved c =
    let item = get_or c.args.items.now c.loop-item.item-index (0, 0) in
    let low = slice_get_within c.args.nodes.now c.find-node.result (c.args.core, c.slot_at.result) c.find-node.ensures.there in
    let size = c.requires.sets in
    sets_next c.args.g.now c.args.nodes.now c.args.sets.now c.args.core c.args.items.now c.loop-item.item-index item c.loop-item.looks.items c.push.new.self.items c.in_ok-look.look
    (slice_get-get_or c.args.items.now c.loop-item.item-index (0, 0) c.loop-item-test.true)
    (node_set c.args.g.now c.args.nodes.now c.args.sets.now c.args.core (item.0) (item.1) c.find-node.result c.slot_at.result c.index-sets-node.result c.in_ok-look.look
    c.slot_at.ensures c.find-node.ensures.there c.find-node.ensures.one
    (c.index-sets-node.is ∙ get_or_default c.args.sets.now c.find-node.result c.index-sets-node.result no_set (omega (arith, low, size))) c.in_ok-look.ensures.size c.in_ok-look.ensures.has)
    (c.in_ok-push.ensures).items c.loop-item.invariant
