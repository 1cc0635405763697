-- What the parts that are left still miss.
use Rattle.std.proofs.Common.{map, drop}
use Rattle.rex_model.specs.Meaning.{meaning, sequence_of, alternative_of}
use Rattle.rex_model.proofs.StepOfParts.{SteppingSequence, SteppingAlternatives}
use Rattle.rex_model.proofs.sets.+step.Given as goal

abbrev pub invariant-step_sequence-loop-part : goal.invariant-step_sequence-loop-part
invariant-step_sequence-loop-part l =
    SteppingSequence (sequence_of (map meaning l.parts)) l.k l.from l.byte
    (sequence_of (map meaning (drop l.part-index l.parts))) l.at l.entered l.initial.to l.to

abbrev pub invariant-step_alternatives-loop-part : goal.invariant-step_alternatives-loop-part
invariant-step_alternatives-loop-part l =
    SteppingAlternatives (alternative_of (map meaning l.parts)) l.k l.from l.byte
    (alternative_of (map meaning (drop l.part-index l.parts))) l.at l.ended l.initial.to l.to
