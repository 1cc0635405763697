-- The first part is of rank 0.
use Rattle.spec_text.proofs.SomeSections.{has_rex}
use Rattle.spec_text.proofs.laws.some_rex.Goals as goal

pub returns : goal.returns
returns c = has_rex
