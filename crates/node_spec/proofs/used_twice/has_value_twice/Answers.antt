-- Each turn looks at one number.
use Rattle.std.proofs.Common.{refl, arith}
use Rattle.spec_text.proofs.Lists.{get_at}
use Rattle.node_spec.proofs.AstTwiceUses.{found_use, step_uses, no_use_twice}
use Rattle.node_spec.proofs.used_twice.has_value_twice.Goals as goal

pub returns-then-is_used : goal.returns-then-is_used
returns-then-is_used c =
    let at = get_at c.args.numbers.now c.loop-number.number-index 0 c.loop-number-test.true in
    (λ is. found_use _ _ _ _ _ c.is_used.new.used at c.loop-number.invariant _ c.if-is_used.true c.is_used.ensures, λ has. refl)

pub loop-number-preserved : goal.loop-number-preserved
loop-number-preserved c =
    let at = get_at c.args.numbers.now c.loop-number.number-index 0 c.loop-number-test.true in
    step_uses _ _ _ _ _ _ at c.loop-number.invariant _ c.if-is_used.false c.is_used.ensures

pub returns : goal.returns
returns c = (
  (λ is. cc),
  λ has. absurd (no_use_twice _ _ _ _ (omega (arith, c.loop-number.auto.number-index-end, c.loop-number-test.false))
      c.loop-number.invariant has),
)
