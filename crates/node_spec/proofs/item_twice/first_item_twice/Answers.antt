-- Each turn looks at one line.
use Rattle.std.proofs.Common.{refl}
use Rattle.section_frame.proofs.Frame.{none_in_all}
use Rattle.node_spec.proofs.AstTwiceLists.{line_at, at_end}
use Rattle.node_spec.proofs.AstTwicePasses.{found_item, step_item}
use Rattle.node_spec.proofs.item_twice.first_item_twice.Goals as goal

pub returns-then-branch : goal.returns-then-branch
returns-then-branch c =
    let at = line_at c.args.list.now c.loop-line.line-index _ c.loop-line-test.true in
    let means = rw c.requires.rows at c.in_ok-repeats_item.ensures in
    found_item _ _ _ _ at c.loop-line.invariant _ means c.if-branch.true c.requires.grow

pub loop-line-preserved : goal.loop-line-preserved
loop-line-preserved c =
    let at = line_at c.args.list.now c.loop-line.line-index _ c.loop-line-test.true in
    let means = rw c.requires.rows at c.in_ok-repeats_item.ensures in
    step_item _ _ _ _ at c.loop-line.invariant _ means _ c.types_in-types.result c.if-branch.false refl c.types_in-types.ensures.few
    c.types_in-types.ensures.more

pub returns : goal.returns
returns c =
    none_in_all _ _ _ (at_end _ c.args.list.now c.loop-line.auto.line-index-end c.loop-line-test.false)
    c.loop-line.invariant.none
