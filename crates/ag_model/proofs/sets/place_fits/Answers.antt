-- The attribute stands before.
use Rattle.ag_model.proofs.Tries.{refuted}
use Rattle.ag_model.proofs.sets.place_fits.Goals as goal

pub returns-then-is_in_some : goal.returns-then-is_in_some
returns-then-is_in_some c =
    refuted _ _ c.is_in_some.result c.is_in_some.ensures (λ fits found. fits.no_set_before found.0 found.1 found.2) c.if-is_in_some.true
