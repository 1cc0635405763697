-- By the shapes.
use Rattle.ag_spec.proofs.OneAgSaying.{one_ag_line}
use Rattle.ag_spec.proofs.laws.at_most_one_ag_line.Goals as goal

pub returns : goal.returns
returns c = one_ag_line
