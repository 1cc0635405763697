-- One label more.
use Rattle.std.proofs.Common.{◌+◌, ◌∙◌, ap, drop_of_length-le, sym}
use Rattle.beg_model.specs.Labels.{least_of}
use Rattle.beg_label.proofs.OffersSoFar.{sum_more}
use Rattle.beg_label.specs.within.Offers.{capped}
use Rattle.beg_label.specs.within.Collected.{total_from}
use Rattle.beg_label.proofs.collecting.operands_cost.Goals as goal

pub loop-i-preserved : goal.loop-i-preserved
loop-i-preserved c = sum_more (least_of c.args.labels.now) c.args.operands.now c.loop-i.i c.loop-i.sum c.added-sum.result c.operand_at-operand.result.now c.operand_at-operand.ensures
    (c.added-sum.ensures ∙ ap (λ z. capped (c.loop-i.sum + z)) c.label_of.ensures) ∙ c.loop-i.invariant

pub returns : goal.returns
returns c = sym (ap (λ z. total_from (least_of c.args.labels.now) c.loop-i.sum z) (drop_of_length-le c.args.operands.now c.loop-i-test.false)) ∙ c.loop-i.invariant
