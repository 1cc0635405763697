-- Equal winners lead to one state and one place.
use Rattle.rex_model.proofs.OneRun.{same_after}
use Rattle.rex_model.proofs.laws.same_tokens_after.Goals as goal

pub returns : goal.returns
returns c = same_after
