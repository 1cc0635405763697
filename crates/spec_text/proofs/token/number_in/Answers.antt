-- A further digit makes it too large.
use Rattle.spec_text.proofs.Values.{too_many}
use Rattle.spec_text.proofs.token.number_in.Goals as goal

pub returns-then-value-gt922337203685477580 : goal.returns-then-value-gt922337203685477580
returns-then-value-gt922337203685477580 c =
    too_many _ _ _ _ _ c.loop-digit.invariant c.in-Some.ensures.cases.0 c.if-value-gt922337203685477580.true
