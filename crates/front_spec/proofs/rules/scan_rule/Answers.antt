-- Part by part.
use Rattle.std.proofs.Common.{ap}
use Rattle.rex_model.specs.Meaning.{meaning}
use Rattle.front_spec.specs.Seen.{said_rule}
use Rattle.front_spec.proofs.MadeRules.{made_rule}
use Rattle.front_spec.proofs.rules.scan_rule.Goals as goal

pub returns : goal.returns
returns c =
    made_rule _ _ (said_rule c.args.rule.now) _ _ _ _ _ c.in_ok-active.ensures (ap meaning c.in_ok-body.ensures) c.in_ok-context.ensures
    c.number_of.ensures c.number_of-2.ensures
