-- Each turn looks at one line.
use Rattle.section_frame.proofs.Frame.{first_here, none_more, none_in_all}
use Rattle.node_spec.specs.within.AstTwice.{UsesTwice}
use Rattle.node_spec.proofs.AstTwiceLists.{line_at, at_end}
use Rattle.node_spec.proofs.used_twice.first_used_twice.Goals as goal

pub returns-then-branch : goal.returns-then-branch
returns-then-branch c =
    let at = line_at c.args.list.now c.loop-line.line-index _ c.loop-line-test.true in
    first_here _ (UsesTwice c.args.g.now) _ _ c.requires c.loop-line.invariant at
    ((c.in_ok-uses_twice.ensures c.loop-line.line-index).0 c.if-branch.true)

pub loop-line-preserved : goal.loop-line-preserved
loop-line-preserved c =
    let at = line_at c.args.list.now c.loop-line.line-index _ c.loop-line-test.true in
    none_more _ (UsesTwice c.args.g.now) _ _ c.loop-line.invariant at (λ has.
    let yes = (c.in_ok-uses_twice.ensures c.loop-line.line-index).1 has in let no = c.if-branch.false in cc)

pub returns : goal.returns
returns c =
    none_in_all _ (UsesTwice c.args.g.now) _
    (at_end _ c.args.list.now c.loop-line.auto.line-index-end c.loop-line-test.false) c.loop-line.invariant
