use Rattle.cfg_model.proofs.Forests.{gives_of_steps, steps_of_gives}
use Rattle.cfg_model.proofs.derivation_laws.steps_are_derivations.Goals as goal

pub returns : goal.returns
returns c g u w = (gives_of_steps g u w, steps_of_gives g u w)
