-- What is read of the loosest level is the expression of the line, where that may follow it.
use Rattle.expr_read.proofs.Conditions.{none_line, line_read, line_stops}
use Rattle.expr_read.proofs.parsing.read_written.Goals as goal

pub returns-in_default-clause-reading : goal.returns-in_default-clause-reading
returns-in_default-clause-reading c = none_line _ (rw c.in_default.is at c.in_ok-read.ensures)

pub returns-then-may_follow-clause-reading : goal.returns-then-may_follow-clause-reading
returns-then-may_follow-clause-reading c = line_read _ _ _ _ (rw c.in-Some.is at c.in_ok-read.ensures)

pub returns-else-may_follow-clause-reading : goal.returns-else-may_follow-clause-reading
returns-else-may_follow-clause-reading c =
    line_stops _ _ _ _ (rw c.in-Some.is at c.in_ok-read.ensures)
    (λ follows. let so = c.may_follow.ensures.1 follows in let no = c.if-may_follow.false in cc)
