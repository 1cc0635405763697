-- That a stage has one answer is what `one_answer` shows.
use Rattle.ck_chain.proofs.OneAnswer.{one_answer}
use Rattle.ck_chain.proofs.laws.at_most_one_meaning.Goals as goal

pub returns : goal.returns
returns c = λ spec tools accepts stage source a b first second. one_answer spec tools accepts source stage a b first second
