-- That a run has an answer is what `some_outcome` shows.
use Rattle.ck_tool.proofs.SomeOutcome.{some_outcome}
use Rattle.ck_tool.proofs.laws.some_answer.Goals as goal

pub returns : goal.returns
returns g c = λ are_told none. some_outcome _ _ are_told none
