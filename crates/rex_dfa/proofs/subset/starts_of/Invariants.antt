use Rattle.rex_dfa.specs.within.Subset.{AreStarts}
use Rattle.rex_dfa.proofs.subset.starts_of.Given as goal

abbrev pub invariant-loop-first : goal.invariant-loop-first
invariant-loop-first l = AreStarts l.positions l.firsts l.sets l.starts.items l.first-index
