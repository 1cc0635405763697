use Rattle.std.proofs.Common.{arith, ap, ◌∙◌, sym, subst, length}
use Rattle.std.specs.Prelude.{slice_index}
use Rattle.tree_store.specs.Forest.{Under}
use Rattle.tree_store.proofs.LinksAgree.{tied_now, under_within, under_le, first_some, first_none, has_parent, next_some, next_none}
use Rattle.tree_store.proofs.NextInPreorder.{After, stands, child_is_next, bare, sibling_is_next, above, is_the_last}
use Rattle.tree_store.proofs.tree.Tree.next_in_preorder.Goals as goal

pub link_at-first-requires : goal.link_at-first-requires
link_at-first-requires c =
    let tied = tied_now _ _ _ _ _ _ _ c.self.invariant c.self.view_is in
    let within = under_within c.args.root c.args.node tied c.requires.under c.requires.root in
    omega (arith, within, tied.as_many_firsts, ap (λ x. length x) c.as_slice-firsts.ensures.value)

pub returns-then-first : goal.returns-then-first
returns-then-first c =
    let tied = tied_now _ _ _ _ _ _ _ c.self.invariant c.self.view_is in
    let within = under_within c.args.root c.args.node tied c.requires.under c.requires.root in
    let link = c.link_at-first.ensures ∙ ap (λ x. slice_index x c.args.node) c.as_slice-firsts.ensures.value in
    let found = first_some c.args.node _ tied within link c.if-first.true in
    λ order all. child_is_next _ _ _ _ _ _ found.0 order found.1 (stands c.args.root c.args.node order tied c.requires.under all)

pub loop-at-init : goal.loop-at-init
loop-at-init c =
    let tied = tied_now _ _ _ _ _ _ _ c.self.invariant c.self.view_is in
    let within = under_within c.args.root c.args.node tied c.requires.under c.requires.root in
    let link = c.link_at-first.ensures ∙ ap (λ x. slice_index x c.args.node) c.as_slice-firsts.ensures.value in
    let none = first_none c.args.node _ tied within link c.if-first.false in
    record { under = c.requires.under; after = λ order all. bare _ _ _ _ _ order none (stands c.args.root c.args.node order tied c.requires.under all) }

pub link_at-next-requires : goal.link_at-next-requires
link_at-next-requires c =
    let tied = tied_now _ _ _ _ _ _ _ c.self.invariant c.self.view_is in
    let within = under_within c.args.root c.loop-at.at tied c.loop-at.invariant.under c.requires.root in
    omega (arith, within, tied.as_many, ap (λ x. length x) c.as_slice-nexts.ensures.value)

pub returns-then-next : goal.returns-then-next
returns-then-next c =
    let tied = tied_now _ _ _ _ _ _ _ c.self.invariant c.self.view_is in
    let has = has_parent c.args.root c.loop-at.at tied c.loop-at.invariant.under c.loop-at-test.true in
    let link = c.link_at-next.ensures ∙ ap (λ x. slice_index x c.loop-at.at) c.as_slice-nexts.ensures.value in
    let found = next_some c.args.root c.loop-at.at _ tied has link c.if-next.true in
    λ order all. sibling_is_next _ _ _ _ _ _ _ found.0 order c.loop-at-test.true found.1 (c.loop-at.invariant.after order all)

pub link_at-at-requires : goal.link_at-at-requires
link_at-at-requires c =
    let tied = tied_now _ _ _ _ _ _ _ c.self.invariant c.self.view_is in
    let within = under_within c.args.root c.loop-at.at tied c.loop-at.invariant.under c.requires.root in
    omega (arith, within, tied.as_many_parents, ap (λ x. length x) c.as_slice-parents.ensures.value)

pub loop-at-preserved : goal.loop-at-preserved
loop-at-preserved c =
    let tied = tied_now _ _ _ _ _ _ _ c.self.invariant c.self.view_is in
    let has = has_parent c.args.root c.loop-at.at tied c.loop-at.invariant.under c.loop-at-test.true in
    let link = c.link_at-next.ensures ∙ ap (λ x. slice_index x c.loop-at.at) c.as_slice-nexts.ensures.value in
    let none = next_none c.args.root c.loop-at.at _ tied has link c.if-next.false in
    let up = c.link_at-at.ensures ∙ ap (λ x. slice_index x c.loop-at.at) c.as_slice-parents.ensures.value in
    record {
      under = subst (Under c.args.self.now c.args.root) (sym up) has.under;
      after = λ order all. subst (λ x. After c.args.self.now (slice_index c.self.inside.parents.items) (slice_index c.self.inside.numbers.items) c.args.root order c.args.node x) (sym up)
          (above _ _ _ _ _ _ order c.loop-at-test.true none (c.loop-at.invariant.after order all));
    }

pub loop-at-smaller : goal.loop-at-smaller
loop-at-smaller c =
    let tied = tied_now _ _ _ _ _ _ _ c.self.invariant c.self.view_is in
    let has = has_parent c.args.root c.loop-at.at tied c.loop-at.invariant.under c.loop-at-test.true in
    let up = c.link_at-at.ensures ∙ ap (λ x. slice_index x c.loop-at.at) c.as_slice-parents.ensures.value in
    let le = under_le c.args.root _ tied has.under in
    let low = has.before in
    omega (arith, up, le, low)

pub returns : goal.returns
returns c = λ order all. is_the_last _ _ _ _ _ _ order c.loop-at-test.false (c.loop-at.invariant.after order all)
