-- The positions of the parts that are left complete the total.
use Rattle.std.proofs.Common.{◌≡◌, ◌+◌, ◌≤◌, min, map, drop}
use Rattle.rex_model.specs.Meaning.{meaning, sequence_of}
use Rattle.rex_model.specs.Positions.{position_count}
use Rattle.rex_model.proofs.counts.+counts.Given as goal

abbrev pub invariant-positions_of_all-loop-part : goal.invariant-positions_of_all-loop-part
invariant-positions_of_all-loop-part l =
    (l.total ≤ 4294967295)
    × (min (l.total + position_count (sequence_of (map meaning (drop l.part-index l.parts)))) 4294967295
    ≡ min (position_count (sequence_of (map meaning l.parts))) 4294967295)
