-- That the tokens of a text are determined is what `one_run` shows.
use Rattle.rex_model.proofs.OneRun.{one_run}
use Rattle.rex_model.proofs.laws.at_most_one_run.Goals as goal

pub returns : goal.returns
returns c = one_run
