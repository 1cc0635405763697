-- Each part so far is of one of the sections.
use Rattle.spec_text.proofs.Others.{KnownSoFar}
use Rattle.spec_text.proofs.read.first_other.Given as goal

abbrev pub invariant-loop-part : goal.invariant-loop-part
invariant-loop-part l = KnownSoFar l.s.parts.items l.these l.part-index
