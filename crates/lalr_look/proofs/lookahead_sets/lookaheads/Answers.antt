use Rattle.std.proofs.Common.{◌≡◌, ◌+◌, ◌↔◌, All, subst, sym, ap, ◌∙◌, arith, length}
use Rattle.ck_base.specs.BitSet.{Has}
use Rattle.lalr_look.specs.within.Flow.{Flows, set_at}
use Rattle.lalr_look.specs.within.Rows.{rows_of}
use Rattle.lalr_look.specs.Promise.{sets_of}
use Rattle.lalr_look.specs.within.LookGraph.{AreNodeSets}
use Rattle.lalr_look.proofs.NodesOf.{leads_inside, are_lookaheads}
use Rattle.lalr_look.proofs.CallGraph.{take_front}
use Rattle.lalr_look.proofs.lookahead_sets.lookaheads.Goals as goal

pub spread-requires-clause-ends : goal.spread-requires-clause-ends
spread-requires-clause-ends c n m e =
    let low = leads_inside c.args.g.now c.args.cores.now c.in_ok-nodes.nodes n m ((c.in_ok-graph.ensures.edges n m).0 e) in
    let value = ap length c.deref_mut.ensures.value in
    let count = c.in_ok-graph.ensures.sized.sets in
    omega (arith, low, value, count)

pub spread-requires-clause-sizes : goal.spread-requires-clause-sizes
spread-requires-clause-sizes c =
    (c.args.g.now.terminals + 1, subst (λ l. All (λ set. set.size ≡ c.args.g.now.terminals + 1) l) (sym c.deref_mut.ensures.value) c.in_ok-graph.ensures.sized.sizes)

pub returns : goal.returns
returns c =
    let long = c.in_ok-spread.ensures.long in
    let value = ap length c.deref_mut.ensures.value in
    let ok = c.in_ok-graph.graph.sets.ok in
    let sets = c.in_ok-graph.graph.sets.items in
    let same = c.deref.ensures.value ∙ take_front c.spread.new.sets _ c.in_ok-graph.graph.sets.len (omega (arith, long, value, ok)) in
    are_lookaheads c.args.g.now c.requires.grammar c.args.cores.now c.requires.cores c.in_ok-nodes.nodes (rows_of c.in_ok-graph.graph.edges.items) sets c.spread.new.sets
    (sets_of c.in_ok-looks.looks.items)
    (record { whole = c.in_ok-nodes.ensures; own_of = c.in_ok-graph.ensures.own; edge = c.in_ok-graph.ensures.edges })
    (λ k a. subst (λ l. Has (set_at c.spread.new.sets k) a ↔ Flows (rows_of c.in_ok-graph.graph.edges.items) l k a) c.deref_mut.ensures.value (c.in_ok-spread.ensures.flows k a))
    (subst (λ l. AreNodeSets c.args.g.now c.args.cores.now c.in_ok-nodes.nodes l (sets_of c.in_ok-looks.looks.items)) same c.in_ok-looks.ensures)
    (c.in_ok-spread.ensures.sizes (c.args.g.now.terminals + 1)
    (subst (λ l. All (λ set. set.size ≡ c.args.g.now.terminals + 1) l) (sym c.deref_mut.ensures.value) c.in_ok-graph.ensures.sized.sizes))
    (let count = c.in_ok-graph.ensures.sized.sets in omega (arith, long, value, count))
