-- The word stands there, or not.
use Rattle.front_spec.proofs.RuleReadings.{go_reading, no_go}
use Rattle.front_spec.proofs.rule.opt_go.Goals as goal

pub returns-in_default : goal.returns-in_default
returns-in_default c = no_go _ c.in_default.ensures

pub returns : goal.returns
returns c = go_reading _ _ _ _ c.in-Some.ensures c.in_ok-name.ensures
