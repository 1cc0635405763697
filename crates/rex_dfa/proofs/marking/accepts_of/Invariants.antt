use Rattle.rex_dfa.specs.within.Marks.{MarksSets}
use Rattle.rex_dfa.proofs.marking.accepts_of.Given as goal

abbrev pub invariant-loop-s : goal.invariant-loop-s
invariant-loop-s l = MarksSets l.marks l.size l.sets l.accepts.items l.s
