-- None of the names so far is one of the words.
use Rattle.section_frame.proofs.Using.{NoneAmong}
use Rattle.section_frame.proofs.used.shares.Given as goal

abbrev pub invariant-loop-place : goal.invariant-loop-place
invariant-loop-place g l = NoneAmong (g.W.WordSet.words l.words) (g.U.Uses.uses (g.U.Uses.seen l.says)) l.place
