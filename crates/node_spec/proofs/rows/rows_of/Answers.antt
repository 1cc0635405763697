-- Each turn looks at one line.
use Rattle.node_spec.proofs.AstTwiceLists.{line_at, at_end, one_line_more, all_rows}
use Rattle.node_spec.proofs.rows.rows_of.Goals as goal

pub loop-line-preserved : goal.loop-line-preserved
loop-line-preserved c =
    let at = line_at c.args.list.now c.loop-line.line-index _ c.loop-line-test.true in
    one_line_more _ _ _ _ _ _ _ at c.loop-line.invariant c.in_ok-add_row.ensures.rows c.in_ok-add_row.ensures.firsts

pub returns : goal.returns
returns c =
    all_rows _ _ _ _ (at_end _ c.args.list.now c.loop-line.auto.line-index-end c.loop-line-test.false) c.loop-line.invariant
