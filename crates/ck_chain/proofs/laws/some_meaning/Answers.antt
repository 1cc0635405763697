-- That a stage has an answer is what `some_answer` shows.
use Rattle.ck_chain.proofs.OneAnswer.{some_answer}
use Rattle.ck_chain.proofs.laws.some_meaning.Goals as goal

pub returns : goal.returns
returns c = λ spec tools accepts stage source none. some_answer spec tools accepts source stage none
