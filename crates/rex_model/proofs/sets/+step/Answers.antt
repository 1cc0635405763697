-- One turn over the parts, and the moves of the whole from those of the parts.
use Rattle.std.proofs.Common.{map, inl, inr, arith}
use Rattle.std.proofs.lemmas.List.{at_drop_all}
use Rattle.rex_model.specs.Meaning.{meaning}
use Rattle.rex_model.proofs.Adding.{adds_both}
use Rattle.rex_model.proofs.Meanings.{meaning-Star, meaning-Plus, meaning-Opt}
use Rattle.rex_model.proofs.MeaningsOfParts.{meanings_at}
use Rattle.rex_model.proofs.StepOfParts.{sequence_more, sequence_done, alternatives_more, alternatives_done, round}
use Rattle.rex_model.proofs.sets.+step.Goals as goal

pub step-returns-in-Opt-clause-moves : goal.step-returns-in-Opt-clause-moves
step-returns-in-Opt-clause-moves t c = rw (c.in-Opt.is, meaning-Opt) c.step.ensures.moves

pub step-returns-in-Star-clause-moves : goal.step-returns-in-Star-clause-moves
step-returns-in-Star-clause-moves t c = elim c.in-Star.is [
  | inl e ↦ rw (e, meaning-Star) c.step_round.ensures.moves
  | inr e ↦ rw (e, meaning-Plus) c.step_round.ensures.moves
]

pub step_round-returns-clause-moves : goal.step_round-returns-clause-moves
step_round-returns-clause-moves t c =
    let step = c.step-ended.ensures in
    round (meaning c.args.part.now) c.args.k _ c.args.byte _ _ _ _ step.moves step.ends c.add_first_if.ensures

pub step_part-returns-then-ended-clause-moves : goal.step_part-returns-then-ended-clause-moves
step_part-returns-then-ended-clause-moves t c =
    adds_both _ c.step-ended.ensures.moves c.add_first_if.ensures (λ q. (λ h. h, λ h. h))

pub step_part-returns-then-entered-clause-moves : goal.step_part-returns-then-entered-clause-moves
step_part-returns-then-entered-clause-moves t c =
    adds_both _ c.step-ended.ensures.moves c.add_first_if.ensures (λ q. (λ h. h, λ h. h))

pub step_part-returns-else-entered-clause-moves : goal.step_part-returns-else-entered-clause-moves
step_part-returns-else-entered-clause-moves t c =
    adds_both _ c.step-ended.ensures.moves c.add_first_if.ensures (λ q. (λ h. h, λ h. h))

pub step_sequence-loop-part-preserved : goal.step_sequence-loop-part-preserved
step_sequence-loop-part-preserved t c =
    let e = meanings_at c.args.parts.now c.loop-part.part-index c.part-item.result (omega arith) c.part-item.is in
    let before = rw e at c.loop-part.invariant in
    let room = before.room in
    sequence_more _ _ _ _ (meaning c.part-item.result) _ _ _ _ _ _ _ _ before
    c.step_part-entered.ensures.moves c.step_part-entered.ensures.ends (omega arith)

pub step_sequence-returns-clause-moves : goal.step_sequence-returns-clause-moves
step_sequence-returns-clause-moves t c =
    let none = at_drop_all (map meaning) c.args.parts.now c.loop-part.part-index c.loop-part-test.false in
    sequence_done _ _ _ _ _ _ _ _ (rw none at c.loop-part.invariant)

pub step_alternatives-loop-part-preserved : goal.step_alternatives-loop-part-preserved
step_alternatives-loop-part-preserved t c =
    let e = meanings_at c.args.parts.now c.loop-part.part-index c.part-item.result (omega arith) c.part-item.is in
    let before = rw e at c.loop-part.invariant in
    let room = before.room in
    alternatives_more _ _ _ _ (meaning c.part-item.result) _ _ _ c.loop-part.ended c.step-ended.result _ _ _ before
    c.step-ended.ensures.moves c.step-ended.ensures.ends (omega arith)

pub step_alternatives-returns-clause-moves : goal.step_alternatives-returns-clause-moves
step_alternatives-returns-clause-moves t c =
    let none = at_drop_all (map meaning) c.args.parts.now c.loop-part.part-index c.loop-part-test.false in
    alternatives_done _ _ _ _ _ _ _ _ (rw none at c.loop-part.invariant)
