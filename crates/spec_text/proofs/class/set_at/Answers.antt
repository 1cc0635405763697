-- What is listed, or all other bytes.
use Rattle.spec_text.proofs.BeginClass.{set_these, set_others}
use Rattle.spec_text.proofs.class.set_at.Goals as goal

pub returns-in_ok-set : goal.returns-in_ok-set
returns-in_ok-set c = set_others _ _ _ _ _ _ c.in_ok-first.ensures.cases.0 c.if-first-eq94.true c.in_ok-set.ensures c.negated.ensures

pub returns-in_ok-set-2 : goal.returns-in_ok-set-2
returns-in_ok-set-2 c = set_these _ _ _ _ _ c.in_ok-first.ensures.cases.0 c.if-first-eq94.false c.in_ok-set-2.ensures
