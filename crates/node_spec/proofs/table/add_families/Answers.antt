-- Each turn looks at one line.
use Rattle.node_spec.proofs.AstLimits.{line_at, line_end}
use Rattle.node_spec.proofs.AstTypeTable.{no_families_yet, one_family_more, all_families}
use Rattle.node_spec.proofs.table.add_families.Goals as goal

pub loop-line-init : goal.loop-line-init
loop-line-init c = no_families_yet _ _ c.requires.empty

pub loop-line-preserved : goal.loop-line-preserved
loop-line-preserved c =
    let at = line_at c.args.list.now c.loop-line.line-index _ c.loop-line-test.true in
    one_family_more _ _ _ _ _ at c.loop-line.invariant c.in_ok-add_family_of.ensures

pub returns : goal.returns
returns c =
    let end = line_end _ c.args.list.now c.loop-line.auto.line-index-end c.loop-line-test.false in
    all_families _ _ _ end c.loop-line.invariant
