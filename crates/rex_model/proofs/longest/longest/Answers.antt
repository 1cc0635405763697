-- One byte more, or a set without positions.
use Rattle.std.proofs.Common.{◌∙◌, ap}
use Rattle.ck_base.specs.BitSet.{BitSet}
use Rattle.rex_model.proofs.LongestBySets.{search_found, search_goes_on, search_stopped}
use Rattle.rex_model.proofs.longest.longest.Goals as goal
use Rattle.rex_model.proofs.longest.longest.Goals.{then-step, else-step}

pub loop-i-preserved : goal.loop-i-preserved
loop-i-preserved c =
    let now = c.loop-i.invariant in
    let moves = c.step.ensures.moves in
    let ends = c.step.ensures.ends in
    let same_size = c.clear-in-loop-i.ensures.size ∙ ap (λ (set : BitSet). set.size) c.swap.ensures.y_after in
    let empty = c.clear-in-loop-i.ensures.empty in
    rw c.swap.ensures.x_after (elim c.if-step.branch [
      | then-step w ↦ rw w.found-is (search_found _ _ _ _ _ _ _ _ _ _ now c.loop-i-test.true moves ends same_size empty w.if-step.true)
      | else-step w ↦ rw w.found-is (search_goes_on _ _ _ _ _ _ _ _ _ _ now c.loop-i-test.true moves ends same_size empty w.if-step.false)
    ])

pub returns-then-is_empty-clause-longest : goal.returns-then-is_empty-clause-longest
returns-then-is_empty-clause-longest c =
    search_stopped _ _ _ _ _ _ _ c.loop-i.invariant c.loop-i.auto.i-end (c.is_empty.ensures.0 c.if-is_empty.true)
