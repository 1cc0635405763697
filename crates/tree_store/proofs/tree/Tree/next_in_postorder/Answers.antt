use Rattle.std.proofs.Common.{arith, ap, ◌∙◌, sym, subst, length, Some}
use Rattle.std.specs.Prelude.{slice_get, slice_index}
use Rattle.tree_store.specs.Orders.{IsNext}
use Rattle.tree_store.proofs.LinksAgree.{tied_now, under_within, first_some, first_none, has_parent, next_some, next_none, next_sibling}
use Rattle.tree_store.proofs.NextInPostorder.{ends_at, root_is_last, parent_is_next, sibling_comes, comes_down, leaf_is_next}
use Rattle.tree_store.proofs.tree.Tree.next_in_postorder.Goals as goal

pub returns-then-node-root : goal.returns-then-node-root
returns-then-node-root c =
    let tied = tied_now _ _ _ _ _ _ _ c.self.invariant c.self.view_is in
    λ order all. root_is_last _ _ _ _ _ order c.if-node-root.true (ends_at c.args.root c.args.node order tied c.requires.under all)

pub link_at-next-requires : goal.link_at-next-requires
link_at-next-requires c =
    let tied = tied_now _ _ _ _ _ _ _ c.self.invariant c.self.view_is in
    let within = under_within c.args.root c.args.node tied c.requires.under c.requires.root in
    omega (arith, within, tied.as_many, ap (λ x. length x) c.as_slice-nexts.ensures.value)

pub link_at-parent-requires : goal.link_at-parent-requires
link_at-parent-requires c =
    let tied = tied_now _ _ _ _ _ _ _ c.self.invariant c.self.view_is in
    let within = under_within c.args.root c.args.node tied c.requires.under c.requires.root in
    omega (arith, within, tied.as_many_parents, ap (λ x. length x) c.as_slice-parents.ensures.value)

pub returns-then-next : goal.returns-then-next
returns-then-next c =
    let tied = tied_now _ _ _ _ _ _ _ c.self.invariant c.self.view_is in
    let has = has_parent c.args.root c.args.node tied c.requires.under c.if-node-root.false in
    let link = c.link_at-next.ensures ∙ ap (λ x. slice_index x c.args.node) c.as_slice-nexts.ensures.value in
    let none = next_none c.args.root c.args.node _ tied has link c.if-next.true in
    let up = c.link_at-parent.ensures ∙ ap (λ x. slice_index x c.args.node) c.as_slice-parents.ensures.value in
    λ order all. subst (λ x. IsNext order c.args.node (Some x)) (sym up)
    (parent_is_next _ _ _ _ _ order c.if-node-root.false none (ends_at c.args.root c.args.node order tied c.requires.under all))

pub link_at-first-requires : goal.link_at-first-requires
link_at-first-requires c =
    let tied = tied_now _ _ _ _ _ _ _ c.self.invariant c.self.view_is in
    let has = has_parent c.args.root c.args.node tied c.requires.under c.if-node-root.false in
    let link = c.link_at-next.ensures ∙ ap (λ x. slice_index x c.args.node) c.as_slice-nexts.ensures.value in
    let found = next_some c.args.root c.args.node _ tied has link c.if-next.false in
    let sibling = next_sibling c.args.root c.args.node _ found.0 tied has found.1 in
    let within = under_within c.args.root _ tied sibling.0 c.requires.root in
    omega (arith, within, tied.as_many_firsts, ap (λ x. length x) c.as_slice-firsts.ensures.value)

pub loop-first-init : goal.loop-first-init
loop-first-init c =
    let tied = tied_now _ _ _ _ _ _ _ c.self.invariant c.self.view_is in
    let has = has_parent c.args.root c.args.node tied c.requires.under c.if-node-root.false in
    let link = c.link_at-next.ensures ∙ ap (λ x. slice_index x c.args.node) c.as_slice-nexts.ensures.value in
    let found = next_some c.args.root c.args.node _ tied has link c.if-next.false in
    let sibling = next_sibling c.args.root c.args.node _ found.0 tied has found.1 in
    record {
      within = under_within c.args.root _ tied sibling.0 c.requires.root;
      small = c.link_at-first.type_inv;
      link = c.link_at-first.ensures ∙ ap (λ x. slice_index x c.link_at-next.result) c.as_slice-firsts.ensures.value;
      comes = λ order all. sibling_comes _ _ _ _ _ _ found.0 order c.if-node-root.false found.1 (ends_at c.args.root c.args.node order tied c.requires.under all);
    }

pub link_at-first-requires-in-loop-first : goal.link_at-first-requires-in-loop-first
link_at-first-requires-in-loop-first c =
    let tied = tied_now _ _ _ _ _ _ _ c.self.invariant c.self.view_is in
    let found = first_some c.loop-first.at c.loop-first.first tied c.loop-first.invariant.within c.loop-first.invariant.link c.loop-first-test.true in
    let low = (tied.up c.loop-first.at 0 c.loop-first.first (ap (λ xs. slice_get xs 0) found.1)).2 in
    let within = c.loop-first.invariant.within in
    omega (arith, within, low, tied.as_many_firsts, ap (λ x. length x) c.as_slice-firsts-in-loop-first.ensures.value)

pub loop-first-preserved : goal.loop-first-preserved
loop-first-preserved c =
    let tied = tied_now _ _ _ _ _ _ _ c.self.invariant c.self.view_is in
    let found = first_some c.loop-first.at c.loop-first.first tied c.loop-first.invariant.within c.loop-first.invariant.link c.loop-first-test.true in
    let low = (tied.up c.loop-first.at 0 c.loop-first.first (ap (λ xs. slice_get xs 0) found.1)).2 in
    record {
      within = (let within = c.loop-first.invariant.within in omega (arith, within, low));
      small = c.link_at-first-in-loop-first.type_inv;
      link = c.link_at-first-in-loop-first.ensures ∙ ap (λ x. slice_index x c.loop-first.first) c.as_slice-firsts-in-loop-first.ensures.value;
      comes = λ order all. comes_down _ order _ _ _ found.0 found.1 (c.loop-first.invariant.comes order all);
    }

pub loop-first-smaller : goal.loop-first-smaller
loop-first-smaller c =
    let tied = tied_now _ _ _ _ _ _ _ c.self.invariant c.self.view_is in
    let found = first_some c.loop-first.at c.loop-first.first tied c.loop-first.invariant.within c.loop-first.invariant.link c.loop-first-test.true in
    (tied.up c.loop-first.at 0 c.loop-first.first (ap (λ xs. slice_get xs 0) found.1)).2

pub returns : goal.returns
returns c =
    let tied = tied_now _ _ _ _ _ _ _ c.self.invariant c.self.view_is in
    let none = first_none c.loop-first.at c.loop-first.first tied c.loop-first.invariant.within c.loop-first.invariant.link c.loop-first-test.false in
    λ order all. leaf_is_next _ order _ _ none (c.loop-first.invariant.comes order all)
