-- A name that is found is there.
use Rattle.ck_base.proofs.NameFound.{is_there}
use Rattle.ck_base.proofs.names.Names.has.Goals as goal

pub returns : goal.returns
returns c = rw c.is_some.ensures (is_there c.args.self.now c.args.name.now _ c.find.ensures.found c.find.ensures.absent)
