-- Each turn makes one name.
use Rattle.node_spec.proofs.BuildNames.{next_dollar, all_dollars}
use Rattle.node_spec.proofs.dollar_names.dollar_names.Goals as goal

pub loop-i-preserved : goal.loop-i-preserved
loop-i-preserved c = next_dollar _ _ _ _ c.loop-i.invariant c.in_ok-name.ensures c.in_ok-push.ensures.items

pub returns : goal.returns
returns c = all_dollars c.args.n _ _ c.loop-i.auto.i-end c.loop-i-test.false c.loop-i.invariant
