-- The equation is evaluated where it wasn't before, and all that it uses is at hand.
use Rattle.std.proofs.Common.{sym, ◌∙◌, ap, arith}
use Rattle.ag_model.specs.declared.attribution.Equation.{Equation}
use Rattle.ag_model.specs.within.TypePlans.{MayUse, own_equations, own_steps}
use Rattle.ag_model.proofs.FitsByStep.{evaluates_when}
use Rattle.ag_model.proofs.fits.may_evaluate.Goals as goal

pub returns : goal.returns
returns c =
    let p = c.args.p.now in
    evaluates_when c.own_equations_of-equations.result.now (own_equations p) c.own_steps_of-steps.result.now (own_steps p) c.args.i c.args.e
    c.index-equations-e.result c.as_slice.result.now (MayUse p c.args.i) c.was_evaluated.result c.may_use_all.result
    c.own_equations_of-equations.ensures c.own_steps_of-steps.ensures (omega (arith, c.if-e-equations.false)) c.index-equations-e.is
    (c.as_slice.ensures.value ∙ ap (λ (q : Equation). q.uses.items) (sym c.index-equations-e.is))
    c.was_evaluated.ensures c.if-was_evaluated.false c.may_use_all.ensures
