use Rattle.std.proofs.Common.{◌≡◌, ℕ, length, List, [], ◌∷◌, arith, refl, sym, ap, ◌∙◌, subst, Contains, slice_index_or}
use Rattle.std.proofs.lemmas.List.Elements.{Contains-append_right}
use Rattle.lalr_look.specs.within.Rows.{rows_of}
use Rattle.lalr_look.proofs.Flowing.{Turning, all_wait, popped, row_done, sent, flowed, row_is, counted, same_sizes, low_node, edge_at}
use Rattle.lalr_look.proofs.flow.spread.Goals as goal

pub loop-n-init : goal.loop-n-init
loop-n-init c =
    let long = counted c.args.edges.now.items ∙ c.requires.nodes in
    all_wait (rows_of c.args.edges.now.items) c.args.sets.now c.in_ok-work.work.items long c.in_ok-work.ensures

pub index-next-requires : goal.index-next-requires
index-next-requires c =
    let items = (c.in-Some.ensures).items in
    let low = c.loop-n.invariant.nodes c.in-Some.n
    (subst (λ l. Contains l c.in-Some.n) (sym items) (Contains-append_right c.pop.new.self.items (c.in-Some.n ∷ []) c.in-Some.n (0, omega arith, refl))) in
    let nodes = c.requires.nodes in
    let ok = c.args.edges.now.ok in
    omega (arith, low, nodes, ok)

pub loop-i-init : goal.loop-i-init
loop-i-init c =
    let items = (c.in-Some.ensures).items in (
      popped (rows_of c.args.edges.now.items) c.args.sets.now c.loop-n.sets c.pop.new.self.items c.in-Some.n
          (subst (λ l. Turning (rows_of c.args.edges.now.items) c.args.sets.now c.loop-n.sets l (length (rows_of c.args.edges.now.items)) 0) items c.loop-n.invariant),
      omega arith,
    )

pub loop-n-preserved : goal.loop-n-preserved
loop-n-preserved c =
    let low = low_node (rows_of c.args.edges.now.items) c.args.sets.now c.loop-n.sets _ c.pop.new.self.items c.in-Some.n c.loop-n.invariant (c.in-Some.ensures).items in
    let nodes = c.requires.nodes in
    let row = row_is c.args.edges.now.items c.in-Some.n c.index-next.result.now (omega (arith, low, nodes)) c.index-next.ensures in
    let size : length (slice_index_or (rows_of c.args.edges.now.items) c.in-Some.n []) ≡ length c.index-next.result.now.items = ap length row in
    let past = c.loop-i-test.false in
    let top = c.loop-i.auto.i-end in
    let len = c.len-i-end.ensures in
    let ok = c.index-next.result.now.ok in
    let end : c.loop-i.i ≡ length (slice_index_or (rows_of c.args.edges.now.items) c.in-Some.n []) = omega (arith, size, past, top, len, ok) in
    row_done (rows_of c.args.edges.now.items) c.args.sets.now c.loop-i.sets c.loop-i.work.items c.in-Some.n
    (subst (λ k. Turning (rows_of c.args.edges.now.items) c.args.sets.now c.loop-i.sets c.loop-i.work.items c.in-Some.n k) end (c.loop-i.invariant).0)

pub send-requires-clause-inside : goal.send-requires-clause-inside
send-requires-clause-inside c =
    let low = low_node (rows_of c.args.edges.now.items) c.args.sets.now c.loop-n.sets _ c.pop.new.self.items c.in-Some.n c.loop-n.invariant (c.in-Some.ensures).items in
    let nodes = c.requires.nodes in
    let test = c.loop-i-test.true in
    let len = c.len-i-end.ensures in
    let ok = c.index-next.result.now.ok in
    let (at, edge) = edge_at c.args.edges.now.items c.in-Some.n c.loop-i.i c.index.result.now c.index-next.result.now
    (omega (arith, low, nodes)) c.index-next.ensures (omega (arith, test, len, ok)) c.index.ensures in
    let inside = c.requires.ends c.in-Some.n c.index.result.now edge in
    let long = (c.loop-i.invariant).0.long in
    (omega (arith, low, long), omega (arith, inside, long))

pub send-requires-clause-sizes : goal.send-requires-clause-sizes
send-requires-clause-sizes c =
    let (size, are) = c.requires.sizes in (size, same_sizes _ _ _ _ _ _ (c.loop-i.invariant).0 size are)

pub loop-i-preserved : goal.loop-i-preserved
loop-i-preserved c =
    let low = low_node (rows_of c.args.edges.now.items) c.args.sets.now c.loop-n.sets _ c.pop.new.self.items c.in-Some.n c.loop-n.invariant (c.in-Some.ensures).items in
    let nodes = c.requires.nodes in
    let test = c.loop-i-test.true in
    let len = c.len-i-end.ensures in
    let ok = c.index-next.result.now.ok in
    let (at, edge) = edge_at c.args.edges.now.items c.in-Some.n c.loop-i.i c.index.result.now c.index-next.result.now
    (omega (arith, low, nodes)) c.index-next.ensures (omega (arith, test, len, ok)) c.index.ensures in
    let inside = c.requires.ends c.in-Some.n c.index.result.now edge in
    let (turn, less) = sent (rows_of c.args.edges.now.items) c.args.sets.now c.loop-i.sets c.send.new.sets c.loop-i.work.items c.send.new.work.items
    c.in-Some.n c.loop-i.i c.index.result.now (c.loop-i.invariant).0 c.in_ok-send.ensures edge inside at in
    let so_far = (c.loop-i.invariant).1 in
    (turn, omega (arith, less, so_far))

no_items : (work : List ℕ) → length work ≡ 0 → work ≡ []
no_items [] e = refl
no_items (x ∷ work) e = absurd (omega (arith, e))

pub returns-clause-long : goal.returns-clause-long
returns-clause-long c = c.loop-n.invariant.long

pub returns-clause-sizes : goal.returns-clause-sizes
returns-clause-sizes c = same_sizes _ _ _ _ _ _ c.loop-n.invariant

pub returns-clause-flows : goal.returns-clause-flows
returns-clause-flows c =
    let empty = c.in_default.ensures.cases.0 in
    let ok = c.loop-n.work.ok in
    let none = no_items c.loop-n.work.items (omega (arith, empty, ok)) in
    flowed (rows_of c.args.edges.now.items) c.args.sets.now c.loop-n.sets
    (subst (λ l. Turning (rows_of c.args.edges.now.items) c.args.sets.now c.loop-n.sets l (length (rows_of c.args.edges.now.items)) 0) none c.loop-n.invariant)
