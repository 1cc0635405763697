-- A step for each state and each line.
use Rattle.std.proofs.Common.{arith}
use Rattle.spec_text.proofs.SectionLines.{start_head, open_head, open_other, open_end, open_plain}
use Rattle.spec_text.proofs.order.step.Goals as goal

pub returns-then-rank-eq0-clause-moves : goal.returns-then-rank-eq0-clause-moves
returns-then-rank-eq0-clause-moves c = λ line is. rw c.in-Start.is (start_head c.in-Head.first _ line (rw c.in-Head.is at is)
    (let a = c.rank.ensures in let yes = c.if-rank-eq0.true in omega (arith, a, yes)))

pub returns-then-rank-clause-moves : goal.returns-then-rank-clause-moves
returns-then-rank-clause-moves c = λ line is. rw c.in-Open.is (open_head c.in-Open.section c.in-Head-mark.next c.in-Open.head _ line (rw c.in-Head-mark.is at is)
    (let a = c.rank-in-Head-mark.ensures in let b = c.rank-in-Head-mark-2.ensures in let yes = c.if-rank.true in omega (arith, a, b, yes)))

pub returns-else-rank-clause-moves : goal.returns-else-rank-clause-moves
returns-else-rank-clause-moves c = λ line is. rw c.in-Open.is (open_other c.in-Open.section c.in-Head-mark.next c.in-Open.head _ line (rw c.in-Head-mark.is at is)
    (λ same. let a = c.rank-in-Head-mark.ensures in let b = c.rank-in-Head-mark-2.ensures in let no = c.if-rank.false in omega (arith, same, a, b, no)))

pub returns-in-End-mark-clause-moves : goal.returns-in-End-mark-clause-moves
returns-in-End-mark-clause-moves c = λ line is. rw c.in-Open.is (open_end c.in-Open.section c.in-Open.head _ line (rw c.in-End-mark.is at is))

pub returns-in-Plain-clause-moves : goal.returns-in-Plain-clause-moves
returns-in-Plain-clause-moves c = λ line is. rw c.in-Open.is (open_plain c.in-Open.section c.in-Open.head _ line (rw c.in-Plain.is at is))
