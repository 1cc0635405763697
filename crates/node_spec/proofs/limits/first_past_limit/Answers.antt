-- Each turn looks at one line.
use Rattle.std.proofs.Common.{◌+◌, ap}
use Rattle.section_frame.proofs.Frame.{none_in_all}
use Rattle.node_spec.proofs.AstLimits.{line_at, line_end, no_limit_yet, step_limit, found_limit}
use Rattle.node_spec.proofs.limits.first_past_limit.Goals as goal

pub loop-line-init : goal.loop-line-init
loop-line-init c = no_limit_yet _

pub returns-then-is_past_limit : goal.returns-then-is_past_limit
returns-then-is_past_limit c = λ g.
    let at = line_at c.args.list.now c.loop-line.line-index _ c.loop-line-test.true in
    found_limit _ _ _ _ _ _ at c.loop-line.invariant c.requires.rows
    (c.is_past_limit.ensures.0 c.if-is_past_limit.true) c.requires.grow g

pub loop-line-preserved : goal.loop-line-preserved
loop-line-preserved c =
    let at = line_at c.args.list.now c.loop-line.line-index _ c.loop-line-test.true in
    step_limit _ _ _ _ _ _ at c.loop-line.invariant c.requires.rows _ _
    (ap (λ n. c.loop-line.families + n) c.families_of_line-families.ensures)
    (ap (λ n. c.loop-line.types + n) c.types_of_line-types.ensures)
    (λ past. let is = c.is_past_limit.ensures.1 past in let e = c.if-is_past_limit.false in cc)

pub returns : goal.returns
returns c = λ g.
    let end = line_end _ c.args.list.now c.loop-line.auto.line-index-end c.loop-line-test.false in
    none_in_all _ _ _ end (c.loop-line.invariant.none g)
