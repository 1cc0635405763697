-- One rule, and as many bytes.
use Rattle.rex_model.proofs.OneRun.{same_winner}
use Rattle.rex_model.proofs.laws.same_winner.Goals as goal

pub returns : goal.returns
returns c = same_winner
