-- Each test of the steps holds.
use Rattle.std.proofs.Common.{◌≡◌, ◌-◌, length, Some, subst}
use Rattle.std.specs.Prelude.{slice_get}
use Rattle.ag_model.specs.declared.plan.PlanStep.TheVariants.{Leave}
use Rattle.ag_model.specs.within.TypePlans.{own_sets, below, child_total, own_equations, own_steps}
use Rattle.ag_model.proofs.FitsByStep.{fits_when}
use Rattle.ag_model.proofs.fits.steps_fit.Goals as goal

pub returns : goal.returns
returns c =
    let p = c.args.p.now in
    fits_when (own_sets p) (below p) (child_total p) (own_equations p) (own_steps p) c.may_all_step.result
    (c.ends_all_visits.ensures.0 c.if-not-ends_all_visits.false)
    (subst (λ ss. slice_get ss (length ss - 1) ≡ Some Leave) c.own_steps_of-steps.ensures (c.ends_in_leave.ensures.0 c.if-not-ends_in_leave.false))
    (c.are_all_evaluated.ensures.0 c.if-not-are_all_evaluated.false)
    (c.are_all_visited.ensures.0 c.if-not-are_all_visited.false)
    c.may_all_step.ensures
