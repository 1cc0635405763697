-- Equation by equation.
use Rattle.std.proofs.Common.{◌≡◌, ℕ, ◌<◌, ◌≤◌, Some, length, subst}
use Rattle.std.specs.Prelude.{slice_get}
use Rattle.ag_model.specs.declared.plan.PlanStep.TheVariants.{Evaluate}
use Rattle.ag_model.proofs.Tries.{all_more, all_all, one_lacks, by_some_step, as_many}
use Rattle.ag_model.specs.within.TypePlans.{own_equations, own_steps}
use Rattle.ag_model.proofs.fits.are_all_evaluated.Goals as goal

pub returns-then-not-was_evaluated : goal.returns-then-not-was_evaluated
returns-then-not-was_evaluated c =
    one_lacks (λ e. (i : ℕ) × (slice_get (own_steps c.args.p.now) i ≡ Some (Evaluate e))) c.loop-e.e (length (own_equations c.args.p.now)) c.was_evaluated.result (subst (λ n. c.loop-e.e < n) (as_many c.own_equations_of-equations.result.now (own_equations c.args.p.now) c.own_equations_of-equations.ensures) c.loop-e-test.true)
    (by_some_step (own_steps c.args.p.now) c.own_steps_of-steps.result.now c.loop-e.e c.was_evaluated.result c.own_steps_of-steps.ensures c.was_evaluated.ensures) c.if-not-was_evaluated.true

pub loop-e-preserved : goal.loop-e-preserved
loop-e-preserved c =
    all_more (λ e. (i : ℕ) × (slice_get (own_steps c.args.p.now) i ≡ Some (Evaluate e))) c.loop-e.e c.was_evaluated.result c.loop-e.invariant (by_some_step (own_steps c.args.p.now) c.own_steps_of-steps.result.now c.loop-e.e c.was_evaluated.result c.own_steps_of-steps.ensures c.was_evaluated.ensures) c.if-not-was_evaluated.false

pub returns : goal.returns
returns c =
    all_all (λ e. (i : ℕ) × (slice_get (own_steps c.args.p.now) i ≡ Some (Evaluate e))) c.loop-e.e (length (own_equations c.args.p.now)) (subst (λ n. n ≤ c.loop-e.e) (as_many c.own_equations_of-equations.result.now (own_equations c.args.p.now) c.own_equations_of-equations.ensures) c.loop-e-test.false) c.loop-e.invariant
