use Rattle.rex_model.specs.Meaning.{meaning}
use Rattle.rex_model.specs.Sets.{FollowBackwards}
use Rattle.rex_dfa.specs.within.Rows.{AreRows}
use Rattle.rex_dfa.proofs.part_rows.befores_of.Given as goal

abbrev pub invariant-loop-p : goal.invariant-loop-p
invariant-loop-p l = AreRows l.size l.p (FollowBackwards (meaning l.r)) l.sets.items
