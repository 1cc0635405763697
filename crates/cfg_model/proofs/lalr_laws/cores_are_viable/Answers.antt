use Rattle.cfg_model.proofs.CoresViable.{core_viable}
use Rattle.cfg_model.proofs.lalr_laws.cores_are_viable.Goals as goal

pub returns : goal.returns
returns c = core_viable
