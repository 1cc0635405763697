-- The set is that of the visit.
use Rattle.std.proofs.Common.{arith}
use Rattle.ag_model.specs.Plans.{lists}
use Rattle.ag_model.proofs.FitsByStep.{given_is}
use Rattle.ag_model.proofs.steps.given.Goals as goal

pub returns : goal.returns
returns c = given_is (lists c.args.sets.now) c.args.v c.visits-count.result c.set_at.result.now c.visits-count.ensures.is (omega arith) (omega arith) c.set_at.ensures
