-- With a token, or without.
use Rattle.front_spec.proofs.RuleReadings.{produces_action, skips_action, neither_action}
use Rattle.front_spec.proofs.rule.action_of.Goals as goal

pub returns-in-Some : goal.returns-in-Some
returns-in-Some c = produces_action _ _ _ _ c.in_ok-rest.ensures c.in-Some.ensures

pub returns-in_err-next : goal.returns-in_err-next
returns-in_err-next c = rw c.from_residual-in_err-next.ensures (neither_action _ _ c.in_ok-rest.ensures c.in_default.ensures c.in_err-next.ensures)

pub returns : goal.returns
returns c = skips_action _ _ _ c.in_ok-rest.ensures c.in_ok-next.ensures
