-- Each turn looks at one token.
use Rattle.std.proofs.Common.{ap, sym, ◌∙◌}
use Rattle.std.specs.List.{slice_get}
use Rattle.spec_text.proofs.Lists.{get_at}
use Rattle.spec_text.proofs.Views.{is_spelled, one_seen}
use Rattle.spec_text.proofs.view.tokens_in.Goals as goal

pub token_at-requires : goal.token_at-requires
token_at-requires c =
    is_spelled _ _ c.requires.0 c.loop-token.token-index _ c.requires.1
    (ap (λ l. slice_get l c.loop-token.token-index) (sym c.as_slice-token-items.ensures.value)
    ∙ get_at c.as_slice-token-items.result.now c.loop-token.token-index _ c.loop-token-test.true)

pub loop-token-preserved : goal.loop-token-preserved
loop-token-preserved c =
    one_seen _ _ _ _ c.loop-token.token-index _ _ c.loop-token.invariant
    (ap (λ l. slice_get l c.loop-token.token-index) (sym c.as_slice-token-items.ensures.value)
    ∙ get_at c.as_slice-token-items.result.now c.loop-token.token-index _ c.loop-token-test.true)
    c.in_ok-token_at.ensures c.in_ok-push.ensures.items
