-- The set is that of the visit.
use Rattle.std.proofs.Common.{arith}
use Rattle.ag_model.specs.Plans.{lists}
use Rattle.ag_model.proofs.FitsByStep.{taken_is}
use Rattle.ag_model.proofs.steps.taken_in.Goals as goal

pub returns : goal.returns
returns c = taken_is (lists c.args.sets.now) c.args.v c.visits-count.result c.set_at.result.now c.visits-count.ensures.is (omega arith) (omega arith) c.set_at.ensures
