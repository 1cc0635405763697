use Rattle.std.proofs.Common.{◌≡◌, ◌+◌, subst, subst₂, ap, arith, length}
use Rattle.std.proofs.lemmas.Option.{slice_get_within}
use Rattle.lalr_look.specs.within.Graph.{IsSized, Grows}
use Rattle.lalr_look.proofs.Growth.{sized_still, size_at}
use Rattle.lalr_look.proofs.NodesOf.{start_there, none_demand, cores_demand, graph_whole}
use Rattle.lalr_look.proofs.lookahead_sets.graph_of.Goals as goal

pub find-start-requires : goal.find-start-requires
find-start-requires c = start_there c.args.g.now c.args.cores.now c.args.nodes.now c.requires.cores c.requires.nodes

pub add-requires-clause-node : goal.add-requires-clause-node
add-requires-clause-node c =
    let low = slice_get_within c.args.nodes.now c.find-start.result (0, 0) c.find-start.ensures.there in
    let count = c.in_ok-graph.ensures.sized.sets in
    let len = c.len.ensures in
    omega (arith, low, count, len)

pub add-requires-clause-number : goal.add-requires-clause-number
add-requires-clause-number c =
    let low = slice_get_within c.args.nodes.now c.find-start.result (0, 0) c.find-start.ensures.there in
    let sized = c.in_ok-graph.ensures.sized in
    let count = sized.sets in
    let len = c.len.ensures in
    let size = size_at c.in_ok-graph.graph.sets.items c.find-start.result (c.g.inside.terminals + 1) (omega (arith, low, count, len)) sized.sizes in
    omega (arith, size)

pub loop-core-init : goal.loop-core-init
loop-core-init c = (
  none_demand c.args.g.now c.args.cores.now c.args.nodes.now c.add.new.self,
  sized_still c.in_ok-graph.graph c.add.new.self _ _ (length c.args.nodes.now) (c.args.g.now.terminals + 1) c.add.ensures
      (subst₂ (λ a b. IsSized a b c.in_ok-graph.graph) c.len.ensures (ap (λ g. g.terminals + 1) c.g.view_is) c.in_ok-graph.ensures.sized),
)

pub loop-core-preserved : goal.loop-core-preserved
loop-core-preserved c =
    let (grown, sized) = c.loop-core.invariant in (
      cores_demand c.args.g.now c.args.cores.now c.args.nodes.now c.loop-core.core _ c.loop-core.graph c.add_items.new.graph grown c.in_ok-add_items.ensures,
      sized_still c.loop-core.graph c.add_items.new.graph _ _ (length c.args.nodes.now) (c.args.g.now.terminals + 1) c.in_ok-add_items.ensures sized,
    )

pub returns-clause-edges : goal.returns-clause-edges
returns-clause-edges c =
    let past = c.loop-core-test.false in
    let end = c.loop-core.auto.core-end in
    let len = c.len-core-end.ensures in
    (graph_whole c.args.g.now c.args.cores.now c.args.nodes.now c.in_ok-graph.graph c.add.new.self c.loop-core.graph c.find-start.result c.loop-core.core
    (omega (arith, past, end, len)) c.in_ok-graph.ensures.edges c.in_ok-graph.ensures.sets (record { there = c.find-start.ensures.there; one = c.find-start.ensures.one })
    (subst (λ n. Grows c.in_ok-graph.graph c.add.new.self (λ _ _. ⊥) (λ k a. (k ≡ c.find-start.result) × (a ≡ n))) (ap (λ g. g.terminals) c.g.view_is) c.add.ensures)
    (c.loop-core.invariant).0).0

pub returns-clause-own : goal.returns-clause-own
returns-clause-own c =
    let past = c.loop-core-test.false in
    let end = c.loop-core.auto.core-end in
    let len = c.len-core-end.ensures in
    (graph_whole c.args.g.now c.args.cores.now c.args.nodes.now c.in_ok-graph.graph c.add.new.self c.loop-core.graph c.find-start.result c.loop-core.core
    (omega (arith, past, end, len)) c.in_ok-graph.ensures.edges c.in_ok-graph.ensures.sets (record { there = c.find-start.ensures.there; one = c.find-start.ensures.one })
    (subst (λ n. Grows c.in_ok-graph.graph c.add.new.self (λ _ _. ⊥) (λ k a. (k ≡ c.find-start.result) × (a ≡ n))) (ap (λ g. g.terminals) c.g.view_is) c.add.ensures)
    (c.loop-core.invariant).0).1
