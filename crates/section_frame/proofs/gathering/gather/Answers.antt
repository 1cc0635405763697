-- Each turn meets the name of one line.
use Rattle.std.proofs.Common.{map, ap, ◌∙◌, [], arith}
use Rattle.ck_base.specs.Numbered.{met}
use Rattle.spec_text.proofs.Lists.{map_get, get_at}
use Rattle.section_frame.specs.Passes.{judged_by}
use Rattle.section_frame.specs.Words.{name_before}
use Rattle.section_frame.proofs.Counting.{names_met, names_few, named}
use Rattle.section_frame.proofs.gathering.gather.Goals as goal

pub loop-line-preserved : goal.loop-line-preserved
loop-line-preserved g c =
    let ds = map (judged_by g.N.Naming.seen) c.args.list.now in
    let d = judged_by g.N.Naming.seen c.line-item.result in
    let at = map_get (judged_by g.N.Naming.seen) c.args.list.now c.loop-line.line-index _
    (rw c.line-item.is (get_at c.args.list.now c.loop-line.line-index _ c.loop-line-test.true)) in
    let is = c.in_ok-meet.ensures ∙ ap (λ o. met c.loop-line.names (name_before o [])) (named _ _ c.name_of.ensures) in
    let few = names_few g.N.Naming.name ds c.loop-line.line-index d at _ _ is _ c.loop-line.invariant.1 in
    (names_met g.N.Naming.name ds c.loop-line.line-index d at _ _ is _ c.loop-line.invariant.0, omega (arith, few))
