-- A winner is not empty.
use Rattle.rex_model.proofs.OneRun.{none_at_end}
use Rattle.rex_model.proofs.laws.no_winner_at_end.Goals as goal

pub returns : goal.returns
returns c = none_at_end
