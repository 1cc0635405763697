-- The lines so far.
use Rattle.std.proofs.Common.{length}
use Rattle.spec_text.proofs.LinesSoFar.{LinesSoFar}
use Rattle.spec_text.proofs.line.lines_of.Given as goal

abbrev pub invariant-loop-rest : goal.invariant-loop-rest
invariant-loop-rest l = LinesSoFar l.spec l.rest l.lines.items l.count

abbrev pub decreases-loop-rest : goal.decreases-loop-rest
decreases-loop-rest l = length l.rest
