-- The sign stands there, or not.
use Rattle.front_spec.proofs.RuleReadings.{states_reading, no_states}
use Rattle.front_spec.proofs.rule.opt_states.Goals as goal

pub returns-in_default : goal.returns-in_default
returns-in_default c = no_states _ c.in_default.ensures

pub returns : goal.returns
returns c = states_reading _ _ _ _ _ c.in-Some.ensures (rw c.in-Some-2.is at c.in_ok-names.ensures) c.in-Some-after_sign.ensures
