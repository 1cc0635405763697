-- A part of the rule is missing.
use Rattle.front_spec.proofs.RuleReadings.{no_states_part, no_body, no_context, no_action}
use Rattle.front_spec.proofs.rule.rule_line.Goals as goal

pub returns-in_default-3 : goal.returns-in_default-3
returns-in_default-3 c = no_body _ _ _ _ c.in-Some.ensures (rw c.in-Some-2.is at c.in_ok-states.ensures) (rw c.in_default-3.is at c.in_ok-body.ensures)

pub returns-in_default-4 : goal.returns-in_default-4
returns-in_default-4 c = no_context _ _ _ _ c.in-Some.ensures (rw c.in-Some-2.is at c.in_ok-states.ensures) _ _ (rw c.in-Some-3.is at c.in_ok-body.ensures) (rw c.in_default-4.is at c.in_ok-context.ensures)

pub returns-in_default-action_of : goal.returns-in_default-action_of
returns-in_default-action_of c = no_action _ _ _ _ c.in-Some.ensures (rw c.in-Some-2.is at c.in_ok-states.ensures) _ _ (rw c.in-Some-3.is at c.in_ok-body.ensures)
    _ _ (rw c.in-Some-4.is at c.in_ok-context.ensures) c.in_default-action_of.ensures

pub returns-in_default-2 : goal.returns-in_default-2
returns-in_default-2 c = no_states_part _ _ c.in-Some.ensures (rw c.in_default-2.is at c.in_ok-states.ensures)
