use Rattle.std.proofs.Common.{◌≡◌, arith, refl}
use Rattle.std.specs.Prelude.{slice_index}
use Rattle.tree_store.specs.Forest.{here}
use Rattle.tree_store.specs.Folds.{not_entered}
use Rattle.tree_store.proofs.WalkSteps.{stops_under, stops_leaving, on_leaving, top, turn_bare, turn_down, turn_next, turn_up, from_start}
use Rattle.tree_store.proofs.LinksAgree.{tied_now, first_some, first_none, next_some, next_none, first_child, next_sibling, has_parent, under_within, index_is}
use Rattle.tree_store.proofs.CallsToCome.{less_down, less_bare, less_next, less_up}
use Rattle.tree_store.proofs.tree.Tree.walk.Goals as goal

pub loop-done-init : goal.loop-done-init
loop-done-init g c = record {
  under = here _ refl;
  within = c.requires.root;
  ready = c.requires.ready;
  so_far = λ s end on. from_start _ _ _ _ _ _ _ _ _ on;
}

pub returns-then-not-leave-clause-fold : goal.returns-then-not-leave-clause-fold
returns-then-not-leave-clause-fold g c = c.loop-done.invariant.so_far _ _ (rw c.if-done.true (stops_leaving _ _ _ c.if-not-leave.ensures.leaves))

pub returns-then-node-root-clause-fold : goal.returns-then-node-root-clause-fold
returns-then-node-root-clause-fold g c = c.loop-done.invariant.so_far _ _ (rw c.if-done.true (on_leaving _ _ _ _ _ c.if-not-leave.ensures.leaves (top _ _ c.if-node-root.true)))

pub returns-then-not-enter-clause-fold : goal.returns-then-not-enter-clause-fold
returns-then-not-enter-clause-fold g c = c.loop-done.invariant.so_far _ _ (rw c.if-done.false (stops_under _ _ _ _ (not_entered _ _ _ _ c.if-not-enter.ensures.enters)))

pub index-next-requires : goal.index-next-requires
index-next-requires g c = let tied = tied_now _ _ _ _ _ _ _ c.self.invariant c.self.view_is in
    let within = c.loop-done.invariant.within in
    omega (arith, within, tied.as_many, c.self.inside.nexts.ok)

pub index-node-requires : goal.index-node-requires
index-node-requires g c = let tied = tied_now _ _ _ _ _ _ _ c.self.invariant c.self.view_is in
    let within = c.loop-done.invariant.within in
    omega (arith, within, tied.as_many, c.self.invariant.linked.as_many_nexts, c.self.invariant.linked.as_many_parents, c.self.inside.parents.ok)

pub index-first-requires : goal.index-first-requires
index-first-requires g c = let tied = tied_now _ _ _ _ _ _ _ c.self.invariant c.self.view_is in
    let within = c.loop-done.invariant.within in
    omega (arith, within, tied.as_many, c.self.invariant.linked.as_many_nexts, c.self.invariant.linked.as_many_firsts, c.self.inside.firsts.ok)

pub loop-done-preserved-then-first : goal.loop-done-preserved-then-first
loop-done-preserved-then-first g c = let tied = tied_now _ _ _ _ _ _ _ c.self.invariant c.self.view_is in
    let before = c.loop-done.invariant in
    let found = first_some c.loop-done.node c.index-first.result.now tied before.within (index_is c.self.inside.firsts.items _ _ (omega (arith, c.loop-done.invariant.within, tied.as_many, c.self.invariant.linked.as_many_nexts, c.self.invariant.linked.as_many_firsts)) c.index-first.ensures) c.if-first.true in
    let child = first_child c.args.root c.loop-done.node c.index-first.result.now found.0 tied before.under found.1 in
    record {
      under = child.0;
      within = under_within c.args.root _ tied child.0 c.requires.root;
      ready = c.if-not-enter.ensures.ready;
      so_far = λ s end on. before.so_far s end (rw c.if-done.false (turn_down _ _ _ _ _ _ _ _ found.0 _ _ _ _ c.if-not-enter.ensures.enters found.1 child.1 child.2 child.3 (rw c.if-done.false at on)));
    }

pub loop-done-smaller-then-first : goal.loop-done-smaller-then-first
loop-done-smaller-then-first g c = let tied = tied_now _ _ _ _ _ _ _ c.self.invariant c.self.view_is in
    let before = c.loop-done.invariant in
    let found = first_some c.loop-done.node c.index-first.result.now tied before.within (index_is c.self.inside.firsts.items _ _ (omega (arith, c.loop-done.invariant.within, tied.as_many, c.self.invariant.linked.as_many_nexts, c.self.invariant.linked.as_many_firsts)) c.index-first.ensures) c.if-first.true in
    rw c.if-done.false (less_down c.args.root c.loop-done.node c.index-first.result.now found.0 tied before.under before.within found.1)

pub loop-done-preserved : goal.loop-done-preserved
loop-done-preserved g c = let tied = tied_now _ _ _ _ _ _ _ c.self.invariant c.self.view_is in
    let before = c.loop-done.invariant in
    let none = first_none c.loop-done.node c.index-first.result.now tied before.within (index_is c.self.inside.firsts.items _ _ (omega (arith, c.loop-done.invariant.within, tied.as_many, c.self.invariant.linked.as_many_nexts, c.self.invariant.linked.as_many_firsts)) c.index-first.ensures) c.if-first.false in
    record {
      under = before.under;
      within = before.within;
      ready = c.if-not-enter.ensures.ready;
      so_far = λ s end on. before.so_far s end (rw c.if-done.false (turn_bare _ _ _ _ _ _ _ _ _ _ _ c.if-not-enter.ensures.enters none on));
    }

pub loop-done-smaller : goal.loop-done-smaller
loop-done-smaller g c = let tied = tied_now _ _ _ _ _ _ _ c.self.invariant c.self.view_is in
    let before = c.loop-done.invariant in
    rw c.if-done.false (less_bare c.args.root c.loop-done.node tied before.within)

pub loop-done-preserved-then-next : goal.loop-done-preserved-then-next
loop-done-preserved-then-next g c = let tied = tied_now _ _ _ _ _ _ _ c.self.invariant c.self.view_is in
    let before = c.loop-done.invariant in
    let has = has_parent c.args.root c.loop-done.node tied before.under c.if-node-root.false in
    let found = next_some c.args.root c.loop-done.node c.index-next.result.now tied has (index_is c.self.inside.nexts.items _ _ (omega (arith, c.loop-done.invariant.within, tied.as_many)) c.index-next.ensures) c.if-next.true in
    let next = next_sibling c.args.root c.loop-done.node c.index-next.result.now found.0 tied has found.1 in
    record {
      under = next.0;
      within = under_within c.args.root _ tied next.0 c.requires.root;
      ready = c.if-not-leave.ensures.ready;
      so_far = λ s end on. before.so_far s end (rw c.if-done.true (turn_next _ _ _ _ _ _ _ _ found.0 _ _ _ _ c.if-not-leave.ensures.leaves c.if-node-root.false found.1 next.1 next.2 next.3 on));
    }

pub loop-done-smaller-then-next : goal.loop-done-smaller-then-next
loop-done-smaller-then-next g c = let tied = tied_now _ _ _ _ _ _ _ c.self.invariant c.self.view_is in
    let before = c.loop-done.invariant in
    let has = has_parent c.args.root c.loop-done.node tied before.under c.if-node-root.false in
    let found = next_some c.args.root c.loop-done.node c.index-next.result.now tied has (index_is c.self.inside.nexts.items _ _ (omega (arith, c.loop-done.invariant.within, tied.as_many)) c.index-next.ensures) c.if-next.true in
    rw c.if-done.true (less_next c.args.root c.loop-done.node c.index-next.result.now found.0 tied has c.if-node-root.false found.1)

pub loop-done-preserved-else-next : goal.loop-done-preserved-else-next
loop-done-preserved-else-next g c = let tied = tied_now _ _ _ _ _ _ _ c.self.invariant c.self.view_is in
    let before = c.loop-done.invariant in
    let has = has_parent c.args.root c.loop-done.node tied before.under c.if-node-root.false in
    let none = next_none c.args.root c.loop-done.node c.index-next.result.now tied has (index_is c.self.inside.nexts.items _ _ (omega (arith, c.loop-done.invariant.within, tied.as_many)) c.index-next.ensures) c.if-next.false in
    let up : c.index-node.result.now ≡ slice_index c.self.inside.parents.items c.loop-done.node = index_is c.self.inside.parents.items _ _ (omega (arith, c.loop-done.invariant.within, tied.as_many, c.self.invariant.linked.as_many_nexts, c.self.invariant.linked.as_many_parents)) c.index-node.ensures in
    record {
      under = rw up has.under;
      within = rw up (under_within c.args.root _ tied has.under c.requires.root);
      ready = c.if-not-leave.ensures.ready;
      so_far = λ s end on. before.so_far s end (rw c.if-done.true (turn_up _ _ _ _ _ _ _ _ _ _ _ c.if-not-leave.ensures.leaves c.if-node-root.false none (rw (c.if-done.true, up) at on)));
    }

pub loop-done-smaller-else-next : goal.loop-done-smaller-else-next
loop-done-smaller-else-next g c = let tied = tied_now _ _ _ _ _ _ _ c.self.invariant c.self.view_is in
    let before = c.loop-done.invariant in
    let has = has_parent c.args.root c.loop-done.node tied before.under c.if-node-root.false in
    let up : c.index-node.result.now ≡ slice_index c.self.inside.parents.items c.loop-done.node = index_is c.self.inside.parents.items _ _ (omega (arith, c.loop-done.invariant.within, tied.as_many, c.self.invariant.linked.as_many_nexts, c.self.invariant.linked.as_many_parents)) c.index-node.ensures in
    rw (c.if-done.true, up) (less_up c.args.root c.loop-done.node tied has c.if-node-root.false)
