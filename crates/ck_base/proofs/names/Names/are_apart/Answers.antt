-- As the numbered names are.
use Rattle.ck_base.proofs.names.Names.are_apart.Goals as goal

pub returns : goal.returns
returns c = rw (← c.self.view_is) c.self.invariant.apart
