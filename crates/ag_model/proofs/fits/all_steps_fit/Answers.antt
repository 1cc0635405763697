-- Type by type.
use Rattle.ag_model.specs.Attribution.{grammar_of}
use Rattle.ag_model.proofs.Tries.{all_more}
use Rattle.ag_model.specs.within.TypePlans.{FitsAt}
use Rattle.ag_model.proofs.fits.all_steps_fit.Goals as goal

pub loop-t-preserved : goal.loop-t-preserved
loop-t-preserved c =
    all_more (λ t. FitsAt (grammar_of c.args.types.now c.args.a.now) c.args.plan.now t) c.loop-t.t c.steps_fit.result c.loop-t.invariant c.steps_fit.ensures c.if-not-steps_fit.false
