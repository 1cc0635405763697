-- One empty set more.
use Rattle.rex_dfa.proofs.MoreRows.{rows_more}
use Rattle.rex_dfa.proofs.RowsSoFar.{adds_nothing}
use Rattle.rex_dfa.proofs.walk.blanks.Goals as goal

pub loop-preserved : goal.loop-preserved
loop-preserved c = rw c.in_ok-push.ensures.items (rows_more c.args.size c.loop.counter (λ _ _. ⊥) c.loop.sets.items c.in_ok-set.set c.in_ok-set.set
    c.loop.invariant c.in_ok-set.ensures.size c.in_ok-set.ensures.empty (adds_nothing c.in_ok-set.set (λ _. ⊥) (λ p h. h)))
