-- Its meaning alone.
use Rattle.front_spec.specs.Regexes.{IsRegex, EndsRegex, meaning_of}
use Rattle.front_spec.proofs.RegexForms.{expression_read, no_expression}
use Rattle.front_spec.proofs.RuleReadings.{seen_reading, seen_none}
use Rattle.front_spec.proofs.rule.body_of.Goals as goal

pub returns-in_default : goal.returns-in_default
returns-in_default c = seen_none meaning_of IsRegex EndsRegex _ (no_expression _ (rw c.in_default.is at c.in_ok-read.ensures.reading))

pub returns : goal.returns
returns c = seen_reading meaning_of IsRegex EndsRegex _ _ _ (expression_read _ _ _ (rw c.in-Some.is at c.in_ok-read.ensures.reading))
