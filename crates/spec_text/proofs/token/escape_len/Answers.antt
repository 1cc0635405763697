-- A letter, two digits, or neither.
use Rattle.std.proofs.Common.{refl, sym, ◌∙◌}
use Rattle.spec_text.proofs.Characters.{one_escaped, begins_coded, no_escape}
use Rattle.spec_text.proofs.token.escape_len.Goals as goal
use Rattle.spec_text.proofs.token.escape_len.Goals.{else-letter-eq120-via-then-letter-eq120+else-begins_hex, else-letter-eq120-via-else-letter-eq120}

pub returns-then-is_named : goal.returns-then-is_named
returns-then-is_named c = rw c.in_ok-letter.ensures.cases.0 (one_escaped 92 _ _ refl (sym c.is_named.ensures ∙ c.if-is_named.true))

pub returns-then-begins_hex : goal.returns-then-begins_hex
returns-then-begins_hex c = rw c.in_ok-letter.ensures.cases.0 (begins_coded 92 _ _ refl c.if-letter-eq120.true (sym c.begins_hex.ensures ∙ c.if-begins_hex.true))

pub returns-else-letter-eq120 : goal.returns-else-letter-eq120
returns-else-letter-eq120 c = rw c.in_ok-letter.ensures.cases.0 (no_escape _ _ (sym c.is_named.ensures ∙ c.if-is_named.false) (λ is hex.
    elim c.else-letter-eq120.branch [
      | else-letter-eq120-via-then-letter-eq120+else-begins_hex w ↦ let no_hex = w.begins_hex.ensures in let e = w.if-begins_hex.false in cc
      | else-letter-eq120-via-else-letter-eq120 w ↦ w.if-letter-eq120.false is
    ]))
