-- The value so far.
use Rattle.std.proofs.Common.{length}
use Rattle.spec_text.proofs.Values.{ValueSoFar}
use Rattle.spec_text.proofs.token.number_in.Given as goal

abbrev pub invariant-loop-digit : goal.invariant-loop-digit
invariant-loop-digit l = ValueSoFar l.digits l.rest l.value

abbrev pub decreases-loop-digit : goal.decreases-loop-digit
decreases-loop-digit l = length l.rest
