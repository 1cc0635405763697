-- Each turn looks at one line.
use Rattle.section_frame.proofs.Frame.{first_here, none_more, none_in_all}
use Rattle.node_spec.specs.within.AstTwice.{IsReserved}
use Rattle.node_spec.proofs.AstTwiceLists.{line_at, at_end}
use Rattle.node_spec.proofs.reserved.first_reserved.Goals as goal

pub returns-then-names_by_reserved : goal.returns-then-names_by_reserved
returns-then-names_by_reserved c =
    let at = line_at c.args.list.now c.loop-line.line-index _ c.loop-line-test.true in
    first_here _ IsReserved _ _ c.requires c.loop-line.invariant at
    ((c.names_by_reserved.ensures c.loop-line.line-index).0 c.if-names_by_reserved.true)

pub loop-line-preserved : goal.loop-line-preserved
loop-line-preserved c =
    let at = line_at c.args.list.now c.loop-line.line-index _ c.loop-line-test.true in
    none_more _ IsReserved _ _ c.loop-line.invariant at (λ has.
    let yes = (c.names_by_reserved.ensures c.loop-line.line-index).1 has in let no = c.if-names_by_reserved.false in cc)

pub returns : goal.returns
returns c =
    none_in_all _ IsReserved _ (at_end _ c.args.list.now c.loop-line.auto.line-index-end c.loop-line-test.false)
    c.loop-line.invariant
