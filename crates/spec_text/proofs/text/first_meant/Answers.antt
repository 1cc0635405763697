-- The byte itself, or an escape.
use Rattle.spec_text.proofs.Meant.{itself_first}
use Rattle.spec_text.proofs.text.first_meant.Goals as goal

pub returns-else-first-eq92 : goal.returns-else-first-eq92
returns-else-first-eq92 c = rw c.in_ok-first.ensures.cases.0 (itself_first _ _ c.if-first-eq92.false)
