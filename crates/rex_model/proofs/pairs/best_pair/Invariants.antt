-- The best pair of the texts so far; the sets keep their sizes.
use Rattle.rex_model.specs.Meaning.{meaning}
use Rattle.rex_model.proofs.BestPair.{Pairing}
use Rattle.rex_model.proofs.pairs.best_pair.Given as goal

abbrev pub invariant-loop-i : goal.invariant-loop-i
invariant-loop-i l = Pairing (meaning l.body) (meaning l.context) l.text l.fn.from.size l.i l.from l.to l.behind_from l.behind_to l.fn.behind_from.size l.best
