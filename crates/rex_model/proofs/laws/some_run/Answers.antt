-- That there is a run is what the lemma of that name shows.
use Rattle.rex_model.proofs.SomeRun.{some_run}
use Rattle.rex_model.proofs.laws.some_run.Goals as goal

pub returns : goal.returns
returns c = some_run
