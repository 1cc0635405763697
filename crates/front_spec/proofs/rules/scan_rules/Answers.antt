-- Each turn takes the rule of one line.
use Rattle.section_frame.specs.Passes.{judged_by}
use Rattle.front_spec.specs.Seen.{saying}
use Rattle.front_spec.proofs.MadeRules.{declared_at, at_end, one_rule, all_rules}
use Rattle.front_spec.proofs.rules.scan_rules.Goals as goal

pub loop-item-preserved : goal.loop-item-preserved
loop-item-preserved c =
    one_rule _ _ _ c.loop-item.item-index _ _ (judged_by saying c.item-item.result)
    (rw c.item-item.is (declared_at c.args.list.now c.loop-item.item-index _ c.loop-item-test.true)) c.loop-item.invariant c.in_ok-add_rule.ensures

pub returns : goal.returns
returns c = all_rules _ _ _ _ _ (at_end _ c.args.list.now c.loop-item.auto.item-index-end c.loop-item-test.false) c.loop-item.invariant
