-- By the shape.
use Rattle.front_spec.proofs.OneGrammar.{one_production}
use Rattle.front_spec.proofs.laws.at_most_one_production.Goals as goal

pub returns : goal.returns
returns c = one_production
