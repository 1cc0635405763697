-- No part so far is of the section.
use Rattle.spec_text.proofs.Parting.{NoneSoFar}
use Rattle.spec_text.proofs.read.section_of.Given as goal

abbrev pub invariant-loop-part : goal.invariant-loop-part
invariant-loop-part l = NoneSoFar l.s.parts.items l.section l.part-index
