-- Step by step.
use Rattle.std.proofs.Common.{◌≡◌, Some}
use Rattle.std.specs.Prelude.{slice_get}
use Rattle.ag_model.specs.declared.plan.PlanStep.{PlanStep}
use Rattle.ag_model.proofs.Tries.{all_more, all_steps}
use Rattle.ag_model.specs.within.TypePlans.{MayStep, own_steps}
use Rattle.ag_model.proofs.fits.may_all_step.Goals as goal

pub loop-i-preserved : goal.loop-i-preserved
loop-i-preserved c =
    all_more (λ i. (st : PlanStep) → slice_get (own_steps c.args.p.now) i ≡ Some st → MayStep c.args.p.now i st) c.loop-i.i c.may_step.result c.loop-i.invariant c.may_step.ensures c.if-not-may_step.false

pub returns : goal.returns
returns c =
    all_steps (MayStep c.args.p.now) (own_steps c.args.p.now) c.own_steps_of-steps.result.now c.loop-i.i c.own_steps_of-steps.ensures c.loop-i-test.false c.loop-i.invariant
