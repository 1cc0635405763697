-- Odd numbers by their rest.
use Rattle.ag_model.proofs.SetsByPlace.{odd_is}
use Rattle.ag_model.proofs.sets.odd.Goals as goal

pub returns : goal.returns
returns c = odd_is c.args.k
