-- The parts from the place on are in the rows.
use Rattle.std.proofs.Common.{◌+◌, ◌*◌, map, drop}
use Rattle.ck_base.specs.BitSet.{Has}
use Rattle.rex_model.specs.Meaning.{meaning, sequence_of, alternative_of}
use Rattle.rex_dfa.specs.within.Walked.{IsWalked, IsPassed}
use Rattle.rex_dfa.proofs.Weights.{weight}
use Rattle.rex_dfa.proofs.walk.+walk.Given as goal

abbrev pub invariant-walk_sequence-loop-i : goal.invariant-walk_sequence-loop-i
invariant-walk_sequence-loop-i l = record {
  walked : IsWalked (sequence_of (map meaning (drop l.i l.parts))) l.end (Has l.after) l.initial.rows l.rows l.at;
  passed : IsPassed (sequence_of (map meaning (drop l.i l.parts))) l.at (Has l.after) l.after.size l.next;
}

abbrev pub invariant-walk_alternatives-loop-i : goal.invariant-walk_alternatives-loop-i
invariant-walk_alternatives-loop-i l = IsWalked (alternative_of (map meaning (drop l.i l.parts))) l.end (Has l.after) l.initial.rows l.rows l.at

abbrev pub decreases-walk : goal.decreases-walk
decreases-walk l = 4 * weight (meaning l.r.now) + 1

abbrev pub decreases-walk_part : goal.decreases-walk_part
decreases-walk_part l = 4 * weight (meaning l.part.now) + 2

abbrev pub decreases-walk_sequence : goal.decreases-walk_sequence
decreases-walk_sequence l = 4 * weight (sequence_of (map meaning l.parts.now))

abbrev pub decreases-walk_alternatives : goal.decreases-walk_alternatives
decreases-walk_alternatives l = 4 * weight (alternative_of (map meaning l.parts.now))

abbrev pub decreases-walk_round : goal.decreases-walk_round
decreases-walk_round l = 4 * weight (meaning l.part.now) + 2
