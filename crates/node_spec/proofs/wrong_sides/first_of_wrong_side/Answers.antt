-- Each turn looks at one line.
use Rattle.std.proofs.Common.{◌+◌, ap}
use Rattle.section_frame.proofs.Frame.{none_in_all}
use Rattle.node_spec.proofs.AstLimits.{line_at, line_end}
use Rattle.node_spec.proofs.AstSides.{no_side_yet, step_side, found_side}
use Rattle.node_spec.proofs.wrong_sides.first_of_wrong_side.Goals as goal

pub loop-line-init : goal.loop-line-init
loop-line-init c = no_side_yet _

pub returns-then-is_of_wrong_side : goal.returns-then-is_of_wrong_side
returns-then-is_of_wrong_side c =
    let at = line_at c.args.list.now c.loop-line.line-index _ c.loop-line-test.true in
    found_side _ _ _ _ _ c.args.families.now at c.loop-line.invariant c.requires.rows c.requires.families
    (c.is_of_wrong_side.ensures.0 c.if-is_of_wrong_side.true) c.requires.grow

pub loop-line-preserved : goal.loop-line-preserved
loop-line-preserved c =
    let at = line_at c.args.list.now c.loop-line.line-index _ c.loop-line-test.true in
    step_side _ _ _ _ _ c.args.families.now at c.loop-line.invariant c.requires.rows c.requires.families _
    (ap (λ n. c.loop-line.types + n) c.types_of_line-types.ensures)
    (λ wrong. let is = c.is_of_wrong_side.ensures.1 wrong in let e = c.if-is_of_wrong_side.false in cc)

pub returns : goal.returns
returns c =
    let end = line_end _ c.args.list.now c.loop-line.auto.line-index-end c.loop-line-test.false in
    none_in_all _ _ _ end c.loop-line.invariant.none
