-- Each turn looks at one line.
use Rattle.node_spec.proofs.AstLimits.{line_at, line_end}
use Rattle.node_spec.proofs.JoinedFamilies.{one_built, all_built}
use Rattle.node_spec.proofs.wrong_sides.built_labels.Goals as goal

pub loop-line-preserved : goal.loop-line-preserved
loop-line-preserved c =
    let at = line_at c.args.list.now c.loop-line.line-index _ c.loop-line-test.true in
    one_built _ _ _ _ _ at c.loop-line.invariant c.in_ok-add_label.ensures

pub returns : goal.returns
returns c =
    let end = line_end _ c.args.list.now c.loop-line.auto.line-index-end c.loop-line-test.false in
    all_built _ _ _ end c.loop-line.invariant
