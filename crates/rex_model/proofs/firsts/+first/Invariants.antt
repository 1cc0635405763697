-- Only the first positions of the parts that are left may be missing.
use Rattle.std.proofs.Common.{map, drop}
use Rattle.rex_model.specs.Meaning.{meaning, sequence_of, alternative_of}
use Rattle.rex_model.proofs.FirstOfParts.{FrontOfSequence, FrontOfAlternatives}
use Rattle.rex_model.proofs.firsts.+first.Given as goal

abbrev pub invariant-front_of_sequence-loop-part : goal.invariant-front_of_sequence-loop-part
invariant-front_of_sequence-loop-part l =
    FrontOfSequence (sequence_of (map meaning l.parts)) l.k
    (sequence_of (map meaning (drop l.part-index l.parts))) l.at l.empty l.initial.to l.to

abbrev pub invariant-front_of_alternatives-loop-part : goal.invariant-front_of_alternatives-loop-part
invariant-front_of_alternatives-loop-part l =
    FrontOfAlternatives (alternative_of (map meaning l.parts)) l.k
    (alternative_of (map meaning (drop l.part-index l.parts))) l.at l.empty l.initial.to l.to
