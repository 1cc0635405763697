-- Each turn looks at one part.
use Rattle.std.proofs.Common.{ap, sym, ◌∙◌, arith, length}
use Rattle.std.specs.List.{slice_get}
use Rattle.spec_text.proofs.Lists.{get_at}
use Rattle.spec_text.proofs.Parting.{fits}
use Rattle.spec_text.proofs.Others.{known_more, other_found, none_other}
use Rattle.spec_text.proofs.read.first_other.Goals as goal

pub text_of-requires-clause-head : goal.text_of-requires-clause-head
text_of-requires-clause-head c =
    rw c.as_slice.ensures.value (fits c.requires.0 c.args.s.now c.loop-part.part-index _ c.requires.1
    (ap (λ l. slice_get l c.loop-part.part-index) (sym c.as_slice-part-items.ensures.value)
    ∙ get_at c.as_slice-part-items.result.now c.loop-part.part-index _ c.loop-part-test.true)).0

pub text_of-requires-clause-order : goal.text_of-requires-clause-order
text_of-requires-clause-order c =
    (fits c.requires.0 c.args.s.now c.loop-part.part-index _ c.requires.1
    (ap (λ l. slice_get l c.loop-part.part-index) (sym c.as_slice-part-items.ensures.value)
    ∙ get_at c.as_slice-part-items.result.now c.loop-part.part-index _ c.loop-part-test.true)).1

pub text_of-requires-clause-within : goal.text_of-requires-clause-within
text_of-requires-clause-within c =
    rw c.as_slice.ensures.value (fits c.requires.0 c.args.s.now c.loop-part.part-index _ c.requires.1
    (ap (λ l. slice_get l c.loop-part.part-index) (sym c.as_slice-part-items.ensures.value)
    ∙ get_at c.as_slice-part-items.result.now c.loop-part.part-index _ c.loop-part-test.true)).2

pub returns-then-not-is_among : goal.returns-then-not-is_among
returns-then-not-is_among c = λ file are.
    other_found file c.args.s.now _ c.loop-part.part-index _ _ are
    (ap (λ l. slice_get l c.loop-part.part-index) (sym c.as_slice-part-items.ensures.value)
    ∙ get_at c.as_slice-part-items.result.now c.loop-part.part-index _ c.loop-part-test.true)
    c.loop-part.invariant (λ is. let e = c.is_among.ensures.1 is in let n = c.if-not-is_among.true in cc)
    (rw c.as_slice.ensures.value at c.text_of.ensures.head)

pub loop-part-preserved : goal.loop-part-preserved
loop-part-preserved c =
    known_more _ _ c.loop-part.part-index _ c.loop-part.invariant
    (ap (λ l. slice_get l c.loop-part.part-index) (sym c.as_slice-part-items.ensures.value)
    ∙ get_at c.as_slice-part-items.result.now c.loop-part.part-index _ c.loop-part-test.true)
    (c.is_among.ensures.0 (let n = c.if-not-is_among.false in cc))

pub returns : goal.returns
returns c = λ file are.
    none_other file c.args.s.now _ c.loop-part.part-index
    (omega (arith, c.loop-part-test.false, c.loop-part.auto.part-index-end) ∙ ap length c.as_slice-part-items.ensures.value)
    c.loop-part.invariant are
