-- The step is the one at its place.
use Rattle.ag_model.proofs.Tries.{this_step}
use Rattle.ag_model.specs.within.TypePlans.{MayStep, own_steps}
use Rattle.ag_model.proofs.fits.may_step.Goals as goal

pub returns-in-Evaluate : goal.returns-in-Evaluate
returns-in-Evaluate c =
    this_step (MayStep c.args.p.now c.args.i) (own_steps c.args.p.now) c.own_steps_of-steps.result.now c.args.i c.step_at.result _ c.may_evaluate.result c.own_steps_of-steps.ensures c.step_at.ensures c.in-Evaluate.is c.may_evaluate.ensures

pub returns-in-Visit : goal.returns-in-Visit
returns-in-Visit c =
    this_step (MayStep c.args.p.now c.args.i) (own_steps c.args.p.now) c.own_steps_of-steps.result.now c.args.i c.step_at.result _ c.may_visit.result c.own_steps_of-steps.ensures c.step_at.ensures c.in-Visit.is c.may_visit.ensures

pub returns-in-Leave : goal.returns-in-Leave
returns-in-Leave c =
    this_step (MayStep c.args.p.now c.args.i) (own_steps c.args.p.now) c.own_steps_of-steps.result.now c.args.i c.step_at.result _ c.may_leave.result c.own_steps_of-steps.ensures c.step_at.ensures c.in-Leave.is c.may_leave.ensures
