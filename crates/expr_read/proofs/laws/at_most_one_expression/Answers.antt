-- Since what is read from left to right is read in one way.
use Rattle.expr_read.proofs.OneSpoken.{one_spoken}
use Rattle.expr_read.proofs.laws.at_most_one_expression.Goals as goal

pub returns : goal.returns
returns c = one_spoken
