use Rattle.rex_dfa.specs.within.Rows.{AreRows}
use Rattle.rex_dfa.proofs.walk.blanks.Given as goal

abbrev pub invariant-loop : goal.invariant-loop
invariant-loop l = AreRows l.size l.counter (λ _ _. ⊥) l.sets.items
