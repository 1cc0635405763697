-- The sign stands there, or not.
use Rattle.front_spec.proofs.RuleReadings.{context_reading, no_context_there, no_context_inside}
use Rattle.front_spec.proofs.rule.opt_context.Goals as goal

pub returns-in_default : goal.returns-in_default
returns-in_default c = no_context_there _ c.in_default.ensures

pub returns-in_default-2 : goal.returns-in_default-2
returns-in_default-2 c = no_context_inside _ _ c.in-Some.ensures (rw c.in_default-2.is at c.in_ok-body.ensures)

pub returns : goal.returns
returns c = context_reading _ _ _ _ c.in-Some.ensures (rw c.in-Some-2.is at c.in_ok-body.ensures)
