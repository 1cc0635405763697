-- Nothing may follow.
use Rattle.ag_spec.proofs.LineReadings.{not_spoken, more_behind}
use Rattle.ag_spec.proofs.shapes.whole_expression.Goals as goal

pub returns-in_default : goal.returns-in_default
returns-in_default c = not_spoken _ (rw c.in_default.is at c.in_ok-read.ensures.reading)

pub returns-else-is_empty : goal.returns-else-is_empty
returns-else-is_empty c =
    more_behind _ _ _ _ (rw c.in-Some.is at c.in_ok-read.ensures.reading) c.is_empty.ensures c.if-is_empty.false
