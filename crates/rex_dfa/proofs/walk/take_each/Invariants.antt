-- The sets of the bytes before this one have got theirs.
use Rattle.rex_model.specs.Meaning.{meaning}
use Rattle.rex_model.specs.Positions.{Takes}
use Rattle.rex_dfa.proofs.RowsFilled.{FilledTo}
use Rattle.rex_dfa.proofs.walk.take_each.Given as goal

abbrev pub invariant-loop-byte : goal.invariant-loop-byte
invariant-loop-byte l = FilledTo 0 l.byte (λ byte p. Takes (meaning l.r) l.k p byte) l.initial.takers.items l.takers.items
