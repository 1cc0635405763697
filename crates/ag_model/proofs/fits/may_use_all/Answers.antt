-- A place that may not be used.
use Rattle.ag_model.specs.within.TypePlans.{MayUse}
use Rattle.ag_model.proofs.Tries.{one_unlike}
use Rattle.ag_model.proofs.fits.may_use_all.Goals as goal

pub returns-then-not-may_use : goal.returns-then-not-may_use
returns-then-not-may_use c =
    one_unlike (MayUse c.args.p.now c.args.i) c.args.uses.now c.loop-u.u-index _ c.may_use.result c.loop-u-test.true c.may_use.ensures c.if-not-may_use.true
