-- The rule of the line, or none.
use Rattle.front_spec.proofs.MadeRules.{more_rules}
use Rattle.front_spec.proofs.rules.add_rule.Goals as goal

pub returns-in_ok-push-in-Rule : goal.returns-in_ok-push-in-Rule
returns-in_ok-push-in-Rule c = rw c.in-Rule.is
    (more_rules _ _ _ _ c.in_ok-push-in-Rule.ensures.items c.in_ok-scan_rule-in-Rule.ensures)
