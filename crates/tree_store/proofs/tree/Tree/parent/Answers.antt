use Rattle.std.proofs.Common.{arith, ap, ◌∙◌, refl, length}
use Rattle.std.specs.Prelude.{slice_index}
use Rattle.tree_store.proofs.LinksAgree.{tied_now, is_within}
use Rattle.tree_store.proofs.NodeAdded.{child_by}
use Rattle.tree_store.proofs.tree.Tree.parent.Goals as goal

pub link_at-parent-requires : goal.link_at-parent-requires
link_at-parent-requires c =
    let tied = tied_now _ _ _ _ _ _ _ c.self.invariant c.self.view_is in
    omega (arith, tied.as_many_parents, ap (λ x. length x) c.as_slice.ensures.value, c.requires)

pub returns-then-parent : goal.returns-then-parent
returns-then-parent c =
    let tied = tied_now _ _ _ _ _ _ _ c.self.invariant c.self.view_is in
    let link = c.link_at-parent.ensures ∙ ap (λ x. slice_index x c.args.node) c.as_slice.ensures.value in
    λ p i child. (let up = tied.up p i c.args.node child in let low = is_within c.args.self.now p i c.args.node child in
    omega (arith, up.0, low, tied.few, link, c.if-parent.true))

pub returns-else-parent : goal.returns-else-parent
returns-else-parent c =
    let tied = tied_now _ _ _ _ _ _ _ c.self.invariant c.self.view_is in
    let link = c.link_at-parent.ensures ∙ ap (λ x. slice_index x c.args.node) c.as_slice.ensures.value in (
      slice_index c.self.inside.numbers.items c.args.node,
      child_by c.args.self.now _ _ _ _ c.args.node link refl (tied.back c.args.node c.requires (λ e. c.if-parent.false (link ∙ e))),
    )
