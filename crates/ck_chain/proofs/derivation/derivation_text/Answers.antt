-- The steps of the derivation in print, or the refusal.
use Rattle.ck_chain.proofs.Derived.{steps_printed}
use Rattle.ck_chain.proofs.InOrder.{refused_passed}
use Rattle.ck_chain.proofs.derivation.derivation_text.Goals as goal

pub returns-in_err-steps : goal.returns-in_err-steps
returns-in_err-steps c = refused_passed _ _ _ _ _ c.from_residual.ensures.1 c.in_err-steps.ensures

pub returns : goal.returns
returns c = steps_printed _ _ _ _ _ c.in_ok-steps.ensures (rw c.as_slice.ensures.value at c.in_ok-text.ensures)
