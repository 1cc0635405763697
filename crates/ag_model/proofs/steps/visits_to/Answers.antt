-- One more step is counted.
use Rattle.std.proofs.Common.{◌≡◌, ◌+◌, suc, sym, subst, arith}
use Rattle.ag_model.specs.Plans.{is_visit, counted, one_if}
use Rattle.ag_model.proofs.Counted.{counted_zero, counted_more}
use Rattle.ag_model.proofs.steps.visits_to.Goals as goal

pub loop-j-init : goal.loop-j-init
loop-j-init c = (sym (counted_zero (is_visit c.args.c) c.args.steps.now), omega arith)

pub loop-j-preserved : goal.loop-j-preserved
loop-j-preserved c =
    let more : suc c.loop-j.j ≡ c.loop-j.j + 1 = omega arith in
    let next = subst (λ n. counted (is_visit c.args.c) c.args.steps.now n ≡ counted (is_visit c.args.c) c.args.steps.now c.loop-j.j + one_if ((is_visit c.args.c) c.step_at.result)) more
    (counted_more (is_visit c.args.c) c.args.steps.now c.loop-j.j c.step_at.result c.step_at.ensures) in
    let so = c.loop-j.invariant.0 in
    let is = c.visit_in-count.ensures.is in
    let one = c.visit_in-count.ensures.most in
    let most = c.loop-j.invariant.1 in
    (omega (arith, next, so, is), omega (arith, one, most))
