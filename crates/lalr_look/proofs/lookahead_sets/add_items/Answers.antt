use Rattle.std.proofs.Common.{◌≡◌, ◌+◌, subst, sym, arith, length, get_or, Contains, slice_get, Some}
use Rattle.std.proofs.lemmas.Option.{slice_get-get_or}
use Rattle.lalr_look.specs.within.Kernel.{place_of}
use Rattle.lalr_look.proofs.Growth.{sized_still}
use Rattle.lalr_look.proofs.NodesOf.{moves_fit, moves_once, item_demands, core_demands, no_items_demand}
use Rattle.lalr_look.proofs.lookahead_sets.add_items.Goals as goal

pub targets_of-requires-clause-symbols : goal.targets_of-requires-clause-symbols
targets_of-requires-clause-symbols c = moves_fit c.args.g.now c.requires.grammar c.args.cores.now c.requires.cores c.args.core c.requires.core c.moves.result.now c.moves.ensures

pub targets_of-requires-clause-one : goal.targets_of-requires-clause-one
targets_of-requires-clause-one c = moves_once c.args.g.now c.args.cores.now c.requires.cores c.args.core c.requires.core c.moves.result.now c.moves.ensures

pub add_item-requires-clause-targets : goal.add_item-requires-clause-targets
add_item-requires-clause-targets c x o has =
    subst (λ l. slice_get l (place_of c.args.g.now x) ≡ Some o) (sym c.deref.ensures.value)
    (c.in_ok-targets.ensures.targets x o (subst (λ l. Contains l (x, o)) (sym c.moves.ensures) has))

pub loop-item-init : goal.loop-item-init
loop-item-init c = (no_items_demand c.args.g.now c.args.cores.now c.args.nodes.now c.args.core c.items-items.result.now c.args.graph.now, c.requires.graph)

pub loop-item-preserved : goal.loop-item-preserved
loop-item-preserved c =
    let items = c.items-items.result.now in
    let (grown, sized) = c.loop-item.invariant in (
      item_demands c.args.g.now c.args.cores.now c.args.nodes.now c.args.core c.loop-item.item-index items (get_or items c.loop-item.item-index (0, 0))
          c.args.graph.now c.loop-item.graph c.add_item.new.graph (slice_get-get_or items c.loop-item.item-index (0, 0) c.loop-item-test.true) grown c.in_ok-add_item.ensures,
      sized_still c.loop-item.graph c.add_item.new.graph _ _ (length c.args.nodes.now) (c.args.g.now.terminals + 1) c.in_ok-add_item.ensures sized,
    )

pub returns : goal.returns
returns c =
    let past = c.loop-item-test.false in
    core_demands c.args.g.now c.args.cores.now c.args.nodes.now c.args.core c.loop-item.item-index c.items-items.result.now c.args.graph.now c.loop-item.graph
    c.items-items.ensures (omega (arith, past)) (c.loop-item.invariant).0
