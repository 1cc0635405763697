use Rattle.rex_dfa.specs.within.Alike.{AreLike}
use Rattle.rex_dfa.proofs.alike.alike_of.Given as goal

abbrev pub invariant-loop-byte : goal.invariant-loop-byte
invariant-loop-byte l = AreLike l.takers l.byte l.alike.items
