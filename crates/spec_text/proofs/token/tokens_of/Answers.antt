-- Each turn takes a blank or a token.
use Rattle.std.proofs.Common.{refl, sym, ◌∙◌}
use Rattle.std.proofs.lemmas.List.{take_rest}
use Rattle.spec_text.proofs.TokensSoFar.{one_gap, one_more, digits_of, end_comment, end_none, end_large, end_empty}
use Rattle.spec_text.proofs.token.tokens_of.Goals as goal

pub loop-byte-preserved-then-is_blank : goal.loop-byte-preserved-then-is_blank
loop-byte-preserved-then-is_blank c = one_gap _ _ _ _ _ _ _ c.loop-byte.invariant c.in-Some.ensures.cases.0 (sym c.is_blank.ensures ∙ c.if-is_blank.true)

pub returns-then-byte-eq35 : goal.returns-then-byte-eq35
returns-then-byte-eq35 c = end_comment _ _ _ _ _ _ _ _ c.loop-byte.invariant c.in-Some.ensures.cases.0 c.if-byte-eq35.true c.comment_fault.ensures

pub returns-in_default-first_token : goal.returns-in_default-first_token
returns-in_default-first_token c =
    end_none _ _ _ _ _ _ _ c.loop-byte.invariant c.in-Some.ensures.cases.0 (sym c.is_blank.ensures ∙ c.if-is_blank.false) c.if-byte-eq35.false c.in_default-first_token.ensures

pub is_large-requires : goal.is_large-requires
is_large-requires c = digits_of _ _ _ c.in-Some-first_token.ensures

pub returns-then-is_large : goal.returns-then-is_large
returns-then-is_large c = end_large _ _ _ _ _ _ _ c.loop-byte.invariant c.in-Some-first_token.ensures (c.is_large.ensures.0 c.if-is_large.true)

pub loop-byte-preserved : goal.loop-byte-preserved
loop-byte-preserved c = rw take_rest (one_more _ _ _ _ _ _ _ _ _ c.loop-byte.invariant c.in-Some-first_token.ensures
    (λ large. let is = c.is_large.ensures.1 large in let e = c.if-is_large.false in cc) refl c.in_ok-push.ensures.items)

pub returns : goal.returns
returns c = end_empty _ _ _ _ _ c.loop-byte.invariant c.in_default.ensures.cases
