-- What is scanned is drawn, or skipped.
use Rattle.std.proofs.Common.{refl, arith}
use Rattle.ck_chain.proofs.Drawn.{skip_forward, skips, token_forward, has_action, can_go_on, draws, ends, is_bad}
use Rattle.ck_chain.proofs.source_tokens.draw.Goals as goal

pub token_of-requires : goal.token_of-requires
token_of-requires c = has_action _ _ _ _ _ _ _ _ _ c.loop-rule.invariant c.in-Token.ensures

pub overflow_cast-token-in-Token : goal.overflow_cast-token-in-Token
overflow_cast-token-in-Token c =
    let w = c.loop-rule.invariant in
    omega (arith, w.can.small, (token_forward _ _ _ _ _ _ _ _ _ w c.in-Token.ensures).1)

pub returns-in-Token-clause-drawn : goal.returns-in-Token-clause-drawn
returns-in-Token-clause-drawn c = draws _ _ _ _ _ _ _ _ _ _ c.loop-rule.invariant c.in-Token.ensures c.token_of.ensures

pub returns-in-Token-clause-can_draw : goal.returns-in-Token-clause-can_draw
returns-in-Token-clause-can_draw c = can_go_on _ _ _ _ _ _ _ _ _ c.loop-rule.invariant c.in-Token.ensures

pub returns-in-Token-clause-goes_on : goal.returns-in-Token-clause-goes_on
returns-in-Token-clause-goes_on c =
    let w = c.loop-rule.invariant in
    let forward = token_forward _ _ _ _ _ _ _ _ _ w c.in-Token.ensures in
    (refl, omega (arith, w.forward, forward.0, forward.1))

pub loop-rule-smaller : goal.loop-rule-smaller
loop-rule-smaller c =
    let forward = skip_forward _ _ _ _ _ _ _ _ _ c.loop-rule.invariant c.in-Skip.ensures in
    omega (arith, forward.0, forward.1)

pub loop-rule-preserved : goal.loop-rule-preserved
loop-rule-preserved c = skips _ _ _ _ _ _ _ _ _ c.loop-rule.invariant c.in-Skip.ensures

pub returns-in-End-clause-drawn : goal.returns-in-End-clause-drawn
returns-in-End-clause-drawn c = ends _ _ _ _ _ _ c.loop-rule.invariant c.in-End.ensures

pub returns-in-BadToken-clause-drawn : goal.returns-in-BadToken-clause-drawn
returns-in-BadToken-clause-drawn c = is_bad _ _ _ _ _ _ _ c.loop-rule.invariant c.in-BadToken.ensures
