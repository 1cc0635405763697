-- Each turn looks at one line.
use Rattle.node_spec.proofs.AstTwiceLists.{line_at, at_end}
use Rattle.node_spec.proofs.AstTwicePasses.{found_again, step_again, nothing_again}
use Rattle.node_spec.proofs.declared_again.first_again.Goals as goal

pub returns-then-branch-clause-first : goal.returns-then-branch-clause-first
returns-then-branch-clause-first c =
    let at = line_at c.args.list.now c.loop-line.line-index _ c.loop-line-test.true in
    found_again _ _ _ _ c.is_again.new.names _ at c.loop-line.invariant _ c.if-branch.true c.requires.grow
    c.in_ok-is_again.ensures

pub loop-line-preserved : goal.loop-line-preserved
loop-line-preserved c =
    let at = line_at c.args.list.now c.loop-line.line-index _ c.loop-line-test.true in
    step_again _ _ _ _ _ _ at c.loop-line.invariant _ c.if-branch.false c.in_ok-is_again.ensures

pub returns-clause-first : goal.returns-clause-first
returns-clause-first c =
    let end = at_end _ c.args.list.now c.loop-line.auto.line-index-end c.loop-line-test.false in
    (nothing_again _ _ _ _ end c.loop-line.invariant).0

pub returns-clause-apart : goal.returns-clause-apart
returns-clause-apart c =
    let end = at_end _ c.args.list.now c.loop-line.auto.line-index-end c.loop-line-test.false in
    (nothing_again _ _ _ _ end c.loop-line.invariant).1
