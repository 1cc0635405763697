-- Family by family.
use Rattle.std.proofs.Common.{◌↔◌, IsTrue, subst}
use Rattle.ag_model.specs.Attribution.{grammar_of, kinds_of, kinds_in}
use Rattle.ag_model.specs.Plans.{SetsFit, sets_of, lists}
use Rattle.ag_model.proofs.Tries.{all_more}
use Rattle.ag_model.proofs.fits.all_sets_fit.Goals as goal

pub loop-x-preserved : goal.loop-x-preserved
loop-x-preserved c =
    all_more (λ x. SetsFit (kinds_of (grammar_of c.args.types.now c.args.a.now) x) (sets_of c.args.plan.now x)) c.loop-x.x c.sets_fit.result c.loop-x.invariant
    (subst (λ sets. IsTrue c.sets_fit.result ↔ SetsFit (kinds_of (grammar_of c.args.types.now c.args.a.now) c.loop-x.x) sets) c.sets_at.ensures
    (subst (λ attributes. IsTrue c.sets_fit.result ↔ SetsFit (kinds_in attributes) (lists c.sets_at.result.now)) c.attributes_at.ensures c.sets_fit.ensures)) c.if-not-sets_fit.false
