-- Alternatives have as many positions as a sequence.
use Rattle.std.proofs.Common.{inl, inr}
use Rattle.rex_model.proofs.Meanings.{meaning-Seq, meaning-Alt}
use Rattle.rex_model.proofs.MeaningsOfParts.{alternative_count}
use Rattle.rex_model.proofs.counts.+counts.Goals as goal

pub positions-returns-in-Seq : goal.positions-returns-in-Seq
positions-returns-in-Seq t c = elim c.in-Seq.is [
  | inl e ↦ rw (e, meaning-Seq) c.positions_of_all.ensures
  | inr e ↦ rw (e, meaning-Alt, alternative_count) c.positions_of_all.ensures
]
