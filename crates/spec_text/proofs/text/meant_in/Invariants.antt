-- The bytes so far.
use Rattle.std.proofs.Common.{length}
use Rattle.spec_text.proofs.Meant.{MeantSoFar}
use Rattle.spec_text.proofs.text.meant_in.Given as goal

abbrev pub invariant-loop-byte : goal.invariant-loop-byte
invariant-loop-byte l = MeantSoFar l.inside l.rest l.bytes.items

abbrev pub decreases-loop-byte : goal.decreases-loop-byte
decreases-loop-byte l = length l.rest
