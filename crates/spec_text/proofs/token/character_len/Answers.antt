-- The byte itself, an escape, or neither.
use Rattle.std.proofs.Common.{sym, ◌∙◌}
use Rattle.spec_text.proofs.Characters.{one_itself}
use Rattle.spec_text.proofs.token.character_len.Goals as goal

pub returns-then-is_text_byte : goal.returns-then-is_text_byte
returns-then-is_text_byte c = rw c.in_ok-first.ensures.cases.0 (one_itself _ _ (sym c.is_text_byte.ensures ∙ c.if-is_text_byte.true))
