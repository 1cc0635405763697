use Rattle.std.proofs.Common.{◌≡◌, ℕ, sym, ap, subst, arith, length, ◌↔◌, ◌<◌, All}
use Rattle.ck_base.specs.BitSet.{Has}
use Rattle.lalr_look.specs.within.Flow.{Flows, set_at}
use Rattle.lalr_look.specs.within.Rows.{rows_of}
use Rattle.lalr_look.specs.within.Kernel.{Calls}
use Rattle.lalr_look.proofs.CallGraph.{edge_inside, take_front, flows_are_calls, CallGraph}
use Rattle.lalr_look.proofs.calls.calls_of.Goals as goal

pub spread-requires-clause-ends : goal.spread-requires-clause-ends
spread-requires-clause-ends c n m e =
    let low = edge_inside c.args.g.now c.requires.grammar (rows_of c.in_ok-edges.edges.items) c.in_ok-edges.ensures.edges n m e in
    let long = c.in_ok-sets.ensures.long in
    let value = ap length c.deref_mut.ensures.value in
    let of = ap (λ g. g.nonterminals) c.g.view_is in
    omega (arith, low, long, value, of)

pub returns-clause-calls : goal.returns-clause-calls
returns-clause-calls c m n low =
    let long = c.in_ok-spread.ensures.long in
    let value = ap length c.deref_mut.ensures.value in
    let ok = c.in_ok-sets.sets.ok in
    let graph : CallGraph c.args.g.now (rows_of c.in_ok-edges.edges.items) c.in_ok-sets.sets.items =
    record { edge = c.in_ok-edges.ensures.edges; own_of = subst (λ k. (i a : ℕ) → Has (set_at c.in_ok-sets.sets.items i) a ↔ ((i < k) × (a ≡ i))) (ap (λ g. g.nonterminals) c.g.view_is) c.in_ok-sets.ensures.own } in
    let flows = subst (λ l. Has (set_at c.spread.new.sets m) n ↔ Flows (rows_of c.in_ok-edges.edges.items) l m n) c.deref_mut.ensures.value (c.in_ok-spread.ensures.flows m n) in
    let calls = flows_are_calls c.args.g.now c.requires.grammar (rows_of c.in_ok-edges.edges.items) c.in_ok-sets.sets.items graph m n low in
    subst (λ l. Has (set_at l m) n ↔ Calls c.args.g.now m n) (sym (take_front c.spread.new.sets _ c.in_ok-sets.sets.len (omega (arith, long, value, ok))))
    (λ h. calls.0 (flows.0 h), λ d. flows.1 (calls.1 d))

pub returns-clause-sizes : goal.returns-clause-sizes
returns-clause-sizes c =
    let long = c.in_ok-spread.ensures.long in
    let value = ap length c.deref_mut.ensures.value in
    let ok = c.in_ok-sets.sets.ok in
    let size = c.g.inside.nonterminals in
    let before = subst (λ l. All (λ set. set.size ≡ c.g.inside.nonterminals) l) (sym c.deref_mut.ensures.value) c.in_ok-sets.ensures.sizes in (
      size,
      subst (λ l. All (λ set. set.size ≡ c.g.inside.nonterminals) l)
          (sym (take_front c.spread.new.sets _ c.in_ok-sets.sets.len (omega (arith, long, value, ok))))
          (c.in_ok-spread.ensures.sizes c.g.inside.nonterminals before),
    )
