-- That there is at most one winner is what `one_winner` shows.
use Rattle.rex_model.proofs.OneWinner.{one_winner}
use Rattle.rex_model.proofs.laws.at_most_one_winner.Goals as goal

pub returns : goal.returns
returns c = one_winner
