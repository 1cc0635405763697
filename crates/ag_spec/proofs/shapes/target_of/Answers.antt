-- One name, or two.
use Rattle.ag_spec.proofs.LineReadings.{made_own, made_pair}
use Rattle.ag_spec.proofs.shapes.target_of.Goals as goal

pub returns-in-Some : goal.returns-in-Some
returns-in-Some c = made_own _ _ _ _ c.in_ok-first.ensures c.in-Some.ensures

pub returns : goal.returns
returns c =
    made_pair _ _ _ _ _ _ _ c.in_ok-first.ensures c.in_ok-rest.ensures c.in_ok-second.ensures c.in_ok-inside.ensures
