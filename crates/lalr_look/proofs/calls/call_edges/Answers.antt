use Rattle.std.proofs.Common.{◌≡◌, ℕ, ap, ◌∙◌, subst, arith, length, ◌↔◌}
use Rattle.lalr_look.specs.within.Flow.{Edge}
use Rattle.lalr_look.specs.within.Rows.{rows_of}
use Rattle.lalr_look.specs.within.Kernel.{CallsFirst}
use Rattle.lalr_look.proofs.CallGraph.{no_calls, call_next, no_edge}
use Rattle.lalr_look.proofs.calls.call_edges.Goals as goal

pub loop-i-init : goal.loop-i-init
loop-i-init c =
    let edges = rows_of c.in_ok-edges.edges.items in
    (c.in_ok-edges.ensures.long ∙ ap (λ g. g.nonterminals) c.g.view_is, no_calls c.args.g.now edges (no_edge edges c.in_ok-edges.ensures.empty))

pub loop-i-preserved : goal.loop-i-preserved
loop-i-preserved c =
    let (long, so_far) = c.loop-i.invariant in (
      c.in_ok-add_call.ensures.nodes ∙ long,
      call_next c.args.g.now c.loop-i.i (rows_of c.loop-i.edges.items) (rows_of c.add_call.new.edges.items) so_far c.in_ok-add_call.ensures.edge,
    )

pub returns-clause-edges : goal.returns-clause-edges
returns-clause-edges c =
    let (long, so_far) = c.loop-i.invariant in
    let past = c.loop-i-test.false in
    let top = c.loop-i.auto.i-end in
    let size = c.size-i-end.ensures in
    subst (λ n. (k m : ℕ) → Edge (rows_of c.loop-i.edges.items) k m ↔ CallsFirst c.args.g.now n k m) (let e : c.loop-i.i ≡ length c.args.g.now.rules = omega (arith, past, top, size) in e) so_far
