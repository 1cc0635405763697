-- One character more; or the quote follows.
use Rattle.std.proofs.lemmas.List.{take_rest}
use Rattle.spec_text.proofs.Characters.{more_text, all_text}
use Rattle.spec_text.proofs.token.text_len.Goals as goal

pub loop-n-preserved : goal.loop-n-preserved
loop-n-preserved c = rw take_rest (more_text _ _ _ _ c.loop-n.invariant c.in-Some.ensures)

pub returns-then-first-eq34-clause-inside : goal.returns-then-first-eq34-clause-inside
returns-then-first-eq34-clause-inside c = all_text _ _ _ _ _ c.loop-n.invariant c.in_ok-first.ensures.cases.0 c.if-first-eq34.true
