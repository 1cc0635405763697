-- The turn of the loop with the byte taken and without; the last byte ends a word.
use Rattle.std.proofs.Common.{arith}
use Rattle.std.proofs.lemmas.Bool.Decides.{nat_tests}
use Rattle.rex_model.proofs.StepOfString.{string_taken, string_left, ended_at, ends_at}
use Rattle.rex_model.proofs.sets.step_string.Goals as goal
use Rattle.rex_model.proofs.sets.step_string.Goals.{then-is_taken, else-is_taken}

pub loop-next-preserved : goal.loop-next-preserved
loop-next-preserved c =
    let now = c.loop-next.invariant in
    let taken = c.is_taken.ensures in
    elim c.if-is_taken.branch [
      | then-is_taken w ↦ rw w.to-is (string_taken _ _ _ _ _ _ _ _ now (omega arith) (omega arith) (taken.0 w.if-is_taken.true) w.add.ensures)
      | else-is_taken w ↦ rw w.to-is (string_left _ _ _ _ _ _ _ now (omega arith) (λ is. let also = taken.1 is in cc))
    ]

pub returns-then-not-is_empty-clause-ends : goal.returns-then-not-is_empty-clause-ends
returns-then-not-is_empty-clause-ends c =
    let taken = c.is_taken-then-not-is_empty.ensures in (
      λ is. ends_at _ _ _ _ (grind (arith, nat_tests)) (taken.0 is),
      λ ends. taken.1 (ended_at _ _ _ _ ends).1,
    )
