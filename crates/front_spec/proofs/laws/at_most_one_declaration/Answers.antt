-- By the shapes.
use Rattle.front_spec.proofs.OneSaying.{one_saying}
use Rattle.front_spec.proofs.laws.at_most_one_declaration.Goals as goal

pub returns : goal.returns
returns c = one_saying
