-- What is read from left to right is read in one way.
use Rattle.expr_read.proofs.OnePattern.{one_pattern}
use Rattle.expr_read.proofs.laws.at_most_one_pattern.Goals as goal

pub returns : goal.returns
returns c = λ tokens rest more p q first second. one_pattern 64 tokens rest more p q first second
