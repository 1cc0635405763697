-- By the parts.
use Rattle.front_spec.proofs.RegexForms.{one_expression}
use Rattle.front_spec.proofs.laws.at_most_one_regex.Goals as goal

pub returns : goal.returns
returns c = one_expression
