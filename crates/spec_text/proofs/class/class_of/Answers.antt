-- Each turn takes a span.
use Rattle.std.proofs.Common.{arith, refl}
use Rattle.spec_text.proofs.ClassSets.{no_bytes_yet, one_span_more, class_here, no_bits}
use Rattle.spec_text.proofs.class.class_of.Goals as goal

pub loop-low-init : goal.loop-low-init
loop-low-init c = (one_span_more _ _ _ _ _ _ _ (no_bytes_yet _ _ refl no_bits) c.in_ok-low.ensures c.add_span.ensures, c.in_ok-low.ensures.shorter)

pub loop-low-preserved : goal.loop-low-preserved
loop-low-preserved c =
    let before = c.loop-low.invariant.1 in
    let less = c.in-Some.ensures.shorter in
    (one_span_more _ _ _ _ _ _ _ c.loop-low.invariant.0 c.in-Some.ensures c.add_span-in-Some.ensures, omega (arith, before, less))

pub returns-then-first-eq93 : goal.returns-then-first-eq93
returns-then-first-eq93 c = class_here _ _ _ _ _ c.loop-low.invariant.0 c.loop-low.invariant.1 c.in_ok-first.ensures.cases.0 c.if-first-eq93.true
