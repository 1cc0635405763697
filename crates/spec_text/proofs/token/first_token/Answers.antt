-- By the first byte.
use Rattle.std.proofs.Common.{rules, arith}
use Rattle.spec_text.proofs.Begin.{begins_word, begins_number}
use Rattle.spec_text.proofs.Texts.{begins_text, no_text_here}
use Rattle.spec_text.proofs.BeginClass.{begins_class, no_class_there, set_shorter}
use Rattle.spec_text.proofs.OneReading.{none_of_empty}
use Rattle.spec_text.proofs.token.first_token.Goals as goal

pub returns-in_err-first : goal.returns-in_err-first
returns-in_err-first c = rw c.from_residual.ensures (none_of_empty _ c.in_err-first.ensures.cases)

pub returns-then-is_letter : goal.returns-then-is_letter
returns-then-is_letter c = begins_word _ _ c.word_len.ensures (search rules) (search rules)

pub returns-then-is_digit : goal.returns-then-is_digit
returns-then-is_digit c = begins_number _ _ c.digits_len.ensures (search rules) (search rules)

pub returns-in_err-text_len : goal.returns-in_err-text_len
returns-in_err-text_len c = rw c.from_residual-in_err-text_len.ensures (rw (c.in_ok-first.ensures.cases.0, c.if-first-eq34.true) (no_text_here _ c.in_err-text_len.ensures.inside))

pub returns-in_ok-text_len : goal.returns-in_ok-text_len
returns-in_ok-text_len c = rw (c.in_ok-first.ensures.cases.0, c.if-first-eq34.true) (begins_text _ _ c.in_ok-text_len.ensures.inside)

pub returns-in_err-rest : goal.returns-in_err-rest
returns-in_err-rest c = rw c.from_residual-in_err-rest.ensures (rw (c.in_ok-first.ensures.cases.0, c.if-first-eq91.true) (no_class_there _ c.in_err-rest.ensures))

pub returns-in_ok-rest : goal.returns-in_ok-rest
returns-in_ok-rest c =
    let is = c.in_ok-rest.ensures in
    let less = set_shorter _ _ _ is in
    rw (c.in_ok-first.ensures.cases.0, c.if-first-eq91.true) (begins_class _ _ _ _ is (omega (arith, less)))
