-- The visit ends where all that it gives was evaluated.
use Rattle.std.proofs.Common.{map}
use Rattle.ag_model.specs.Attribution.{equation_of}
use Rattle.ag_model.specs.Plans.{lists}
use Rattle.ag_model.specs.within.TypePlans.{own_sets, own_equations, own_steps}
use Rattle.ag_model.proofs.FitsByStep.{leaves_when}
use Rattle.ag_model.proofs.fits.may_leave.Goals as goal

pub returns : goal.returns
returns c =
    let p = c.args.p.now in
    leaves_when (lists c.own_sets_of-sets.result.now) (own_sets p) (map equation_of c.own_equations_of-equations.result.now) (own_equations p)
    c.own_steps_of-steps.result.now (own_steps p) c.args.i c.leaves-count.result c.given-part.result.now c.all_evaluated.result
    c.own_sets_of-sets.ensures c.own_equations_of-equations.ensures c.own_steps_of-steps.ensures c.leaves-count.ensures.is c.given-part.ensures c.all_evaluated.ensures
