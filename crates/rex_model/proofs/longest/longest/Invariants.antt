-- The first set has the positions that come next, and the second is empty.
use Rattle.rex_model.specs.Meaning.{meaning}
use Rattle.rex_model.proofs.LongestBySets.{Searching}
use Rattle.rex_model.proofs.longest.longest.Given as goal

abbrev pub invariant-loop-i : goal.invariant-loop-i
invariant-loop-i l = Searching (meaning l.r) l.text l.fn.from.size l.i l.from l.to l.found
