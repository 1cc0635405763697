use Rattle.std.proofs.Common.{◌≡◌, ◌+◌, arith, ap, ◌∙◌, sym, subst, refl, length, drop}
use Rattle.std.specs.Prelude.{slice_index}
use Rattle.tree_store.specs.Forest.{children_at}
use Rattle.tree_store.specs.Links.{Chain}
use Rattle.tree_store.proofs.LinksAgree.{tied_now, has_children, chain_at}
use Rattle.tree_store.proofs.tree.Tree.child.Goals as goal

pub link_at-at-requires : goal.link_at-at-requires
link_at-at-requires c =
    let tied = tied_now _ _ _ _ _ _ _ c.self.invariant c.self.view_is in
    let within = has_children c.args.self.now c.args.node c.args.i c.requires in
    omega (arith, within, tied.as_many_firsts, ap (λ x. length x) c.as_slice-firsts.ensures.value)

pub loop-turn-init : goal.loop-turn-init
loop-turn-init c =
    let tied = tied_now _ _ _ _ _ _ _ c.self.invariant c.self.view_is in
    let within = has_children c.args.self.now c.args.node c.args.i c.requires in
    let link = c.link_at-at.ensures ∙ ap (λ x. slice_index x c.args.node) c.as_slice-firsts.ensures.value in
    subst (λ x. Chain c.self.inside.nexts.items x (children_at c.args.self.now c.args.node)) (sym link) (tied.down c.args.node within)

pub link_at-at-requires-in-loop-turn : goal.link_at-at-requires-in-loop-turn
link_at-at-requires-in-loop-turn c =
    let here = chain_at _ (children_at c.args.self.now c.args.node) c.loop-turn.turn c.loop-turn.at _ refl c.loop-turn.invariant (let more = c.loop-turn-test.true in omega (arith, more, c.requires)) in
    omega (arith, here.1, ap (λ x. length x) c.as_slice-nexts.ensures.value)

pub loop-turn-preserved : goal.loop-turn-preserved
loop-turn-preserved c =
    let here = chain_at _ (children_at c.args.self.now c.args.node) c.loop-turn.turn c.loop-turn.at _ refl c.loop-turn.invariant (let more = c.loop-turn-test.true in omega (arith, more, c.requires)) in
    let link = c.link_at-at-in-loop-turn.ensures ∙ ap (λ x. slice_index x c.loop-turn.at) c.as_slice-nexts.ensures.value in
    subst (λ x. Chain c.self.inside.nexts.items x (drop (c.loop-turn.turn + 1) (children_at c.args.self.now c.args.node))) (sym link) here.2

pub returns : goal.returns
returns c =
    let tied = tied_now _ _ _ _ _ _ _ c.self.invariant c.self.view_is in
    let at_end : c.loop-turn.turn ≡ c.args.i = (let a = c.loop-turn-test.false in let b = c.loop-turn.auto.turn-end in omega (arith, a, b)) in
    let here = chain_at _ (children_at c.args.self.now c.args.node) c.args.i c.loop-turn.at _ (ap (λ k. drop k (children_at c.args.self.now c.args.node)) (sym at_end)) c.loop-turn.invariant c.requires in
    record { is = here.0; before = (tied.up c.args.node c.args.i c.loop-turn.at here.0).2 }
