-- One label more.
use Rattle.std.proofs.Common.{Some, ◌∙◌, ap, drop_of_length-le, sym, refl}
use Rattle.beg_model.specs.Labels.{least_of}
use Rattle.cover_check.proofs.Sums.{sum_more, fits_64}
use Rattle.cover_check.specs.within.Givings.{given_of, sum_from}
use Rattle.cover_check.proofs.giving.sum_of.Goals as goal

pub loop-i-init : goal.loop-i-init
loop-i-init c = (Some c.args.cost, fits_64 c.args.cost c.ranges.cost.fits, refl)

pub loop-i-preserved : goal.loop-i-preserved
loop-i-preserved c = let (s, is, rest) = c.loop-i.invariant in
    sum_more (least_of c.args.labels.now) c.args.operands.now c.loop-i.i s _ c.subgoal_at-operand.result.now c.loop-i.sum c.with_label-sum.result c.least-label.result
    c.subgoal_at-operand.ensures c.least-label.ensures c.with_label-sum.ensures is rest

pub returns : goal.returns
returns c = let (s, is, rest) = c.loop-i.invariant in
    is ∙ ap given_of (sym (ap (λ z. sum_from (least_of c.args.labels.now) s z) (drop_of_length-le c.args.operands.now c.loop-i-test.false)) ∙ rest)
