use Rattle.std.proofs.Common.{arith, ap, ◌∙◌, length}
use Rattle.std.specs.Prelude.{slice_index}
use Rattle.tree_store.proofs.LinksAgree.{tied_now}
use Rattle.tree_store.proofs.tree.Tree.number.Goals as goal

pub link_at-requires : goal.link_at-requires
link_at-requires c =
    let tied = tied_now _ _ _ _ _ _ _ c.self.invariant c.self.view_is in
    let parents = c.self.invariant.linked.as_many_parents in
    let numbers = c.self.invariant.linked.as_many_numbers in
    omega (arith, parents, numbers, tied.as_many_parents, ap (λ x. length x) c.as_slice.ensures.value, c.requires)

pub returns : goal.returns
returns c = λ p i child.
    let tied = tied_now _ _ _ _ _ _ _ c.self.invariant c.self.view_is in
    c.link_at.ensures ∙ ap (λ x. slice_index x c.args.node) c.as_slice.ensures.value ∙ (tied.up p i c.args.node child).1
