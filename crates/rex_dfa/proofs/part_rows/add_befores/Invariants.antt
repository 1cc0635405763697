use Rattle.rex_dfa.proofs.PositionsOfRows.{BeforesUpTo}
use Rattle.rex_dfa.proofs.part_rows.add_befores.Given as goal

abbrev pub invariant-loop-q : goal.invariant-loop-q
invariant-loop-q l = BeforesUpTo l.follows l.p l.q l.initial.to l.to
