-- That a run has one answer is what `one_outcome` shows.
use Rattle.ck_tool.proofs.OneOutcome.{one_outcome}
use Rattle.ck_tool.proofs.laws.at_most_one_answer.Goals as goal

pub returns : goal.returns
returns g c = λ a b are_told wanted other. one_outcome _ _ a b are_told wanted other
