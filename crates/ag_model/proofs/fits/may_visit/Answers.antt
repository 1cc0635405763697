-- The child is visited where all that the visit takes in was evaluated.
use Rattle.std.proofs.Common.{map, arith}
use Rattle.ag_model.specs.Attribution.{equation_of}
use Rattle.ag_model.specs.Plans.{lists}
use Rattle.ag_model.specs.within.TypePlans.{own_equations, own_steps, below, child_total}
use Rattle.ag_model.proofs.FitsByStep.{visits_when}
use Rattle.ag_model.proofs.fits.may_visit.Goals as goal

pub returns : goal.returns
returns c =
    let p = c.args.p.now in
    visits_when (lists c.child_sets_of-sets.result.now) (below p c.args.c) (map equation_of c.own_equations_of-equations.result.now) (own_equations p)
    c.own_steps_of-steps.result.now (own_steps p) c.args.i c.args.c c.args.v c.visits_to-count.result (child_total p) c.taken_in-part.result.now c.all_evaluated.result
    c.child_sets_of-sets.ensures c.own_equations_of-equations.ensures c.own_steps_of-steps.ensures
    (omega (arith, c.if-c-child_count.false, c.child_count.ensures)) c.if-v-count.false c.visits_to-count.ensures.is c.taken_in-part.ensures c.all_evaluated.ensures
