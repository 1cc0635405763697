-- The answer for the parts that are left is the answer for all.
use Rattle.std.proofs.Common.{◌≡◌, map, drop}
use Rattle.rex_model.specs.Meaning.{meaning, sequence_of, alternative_of}
use Rattle.rex_model.specs.Positions.{has_empty}
use Rattle.rex_model.proofs.empty_word.+empty_word.Given as goal

abbrev pub invariant-all_have_empty_word-loop-part : goal.invariant-all_have_empty_word-loop-part
invariant-all_have_empty_word-loop-part l =
    has_empty (sequence_of (map meaning (drop l.part-index l.parts)))
    ≡ has_empty (sequence_of (map meaning l.parts))

abbrev pub invariant-one_has_empty_word-loop-part : goal.invariant-one_has_empty_word-loop-part
invariant-one_has_empty_word-loop-part l =
    has_empty (alternative_of (map meaning (drop l.part-index l.parts)))
    ≡ has_empty (alternative_of (map meaning l.parts))
