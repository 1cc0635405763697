-- By the next token.
use Rattle.std.proofs.Common.{◌≡◌, true, false, map, refl, sym, ◌∙◌}
use Rattle.spec_text.specs.Lexemes.{word, sign}
use Rattle.spec_text.specs.Seen.{seen}
use Rattle.expr_read.specs.Notation.{closing, comma, arrow, a_word_behind}
use Rattle.expr_read.proofs.Following.{word_follows, arrow_left, end_follows}
use Rattle.expr_read.proofs.parsing.may_follow.Goals as goal

pub returns-in_default : goal.returns-in_default
returns-in_default c = (λ yes. end_follows c.args.tokens.now c.in_default.ensures.cases, λ has. refl)

pub returns-in-Word : goal.returns-in-Word
returns-in-Word c = (
  λ yes. rw (c.in-Some.ensures.cases.0, c.in-Word.is) (a_word_behind c.in-Word.word.now (map seen c.in-Some.field-0-1.now) (c.is_word_behind.ensures.0 yes)),
  λ has. c.is_word_behind.ensures.1 (word_follows (map seen c.args.tokens.now) c.in-Word.word.now (map seen c.in-Some.field-0-1.now) (rw (c.in-Some.ensures.cases.0, c.in-Word.is) refl) has),
)

pub returns-then-is_sign : goal.returns-then-is_sign
returns-then-is_sign c = (
  λ yes. rw (c.in-Some.ensures.cases.0, c.is_sign.ensures.0 c.if-is_sign.true) (closing (map seen c.in-Some.field-0-1.now)),
  λ has. refl,
)

pub returns-then-is_sign-2 : goal.returns-then-is_sign-2
returns-then-is_sign-2 c = (
  λ yes. rw (c.in-Some.ensures.cases.0, c.is_sign-else-is_sign.ensures.0 c.if-is_sign-2.true) (comma (map seen c.in-Some.field-0-1.now)),
  λ has. refl,
)

pub returns-else-is_sign-2 : goal.returns-else-is_sign-2
returns-else-is_sign-2 c = (
  λ yes. rw (c.in-Some.ensures.cases.0, c.is_sign-else-is_sign-2.ensures.0 yes) (arrow (map seen c.in-Some.field-0-1.now)),
  λ has. c.is_sign-else-is_sign-2.ensures.1 (arrow_left (map seen c.args.tokens.now) (seen c.in-Some.first.now) (map seen c.in-Some.field-0-1.now)
      (rw c.in-Some.ensures.cases.0 refl)
      (λ w e. let both : sign c.in-Sign.field-0.now ≡ word w = (rw c.in-Sign.is at e) in cc)
      (λ e. let both : true ≡ false = sym (c.is_sign.ensures.1 e) ∙ c.if-is_sign.false in cc)
      (λ e. let both : true ≡ false = sym (c.is_sign-else-is_sign.ensures.1 e) ∙ c.if-is_sign-2.false in cc) has),
)
