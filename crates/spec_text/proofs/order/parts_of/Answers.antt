-- Each turn takes one line.
use Rattle.std.proofs.Common.{refl, ◌∙◌, arith}
use Rattle.spec_text.proofs.SectionLines.{no_lines_yet, next_line, broken_here, all_closed, all_unclosed}
use Rattle.spec_text.proofs.Lists.{get_at}
use Rattle.spec_text.proofs.Views.{line_at, as_many}
use Rattle.spec_text.proofs.order.parts_of.Goals as goal

pub loop-at-init : goal.loop-at-init
loop-at-init c = (λ are is. no_lines_yet are _ c.new-parts.ensures.items, tt)

pub mark_of-requires : goal.mark_of-requires
mark_of-requires c =
    let here = line_at _ _ c.requires.read.0 c.loop-at.at _ c.requires.read.1
    (rw c.index-lines-at.is (get_at c.args.lines.now c.loop-at.at _ c.loop-at-test.true)) in
    (here.there, here.is)

pub returns-in_default-clause-fault : goal.returns-in_default-clause-fault
returns-in_default-clause-fault c = λ are is.
    let here = line_at _ _ are c.loop-at.at _ is (rw c.index-lines-at.is (get_at c.args.lines.now c.loop-at.at _ c.loop-at-test.true)) in
    let stuck = (rw c.in_default.is at c.step.ensures.moves) here.there (c.mark_of.ensures here.there here.is) in
    rw (c.fault_at.ensures, here.number)
    (broken_here _ are _ _ _ here.there (c.loop-at.invariant.0 are is) here.at stuck, refl)

pub loop-at-preserved : goal.loop-at-preserved
loop-at-preserved c = (
  λ are is.
      let here = line_at _ _ are c.loop-at.at _ is (rw c.index-lines-at.is (get_at c.args.lines.now c.loop-at.at _ c.loop-at-test.true)) in
      next_line are _ _ _ _ _ _ here.there (c.loop-at.invariant.0 are is) here.at
      (c.in-Some.ensures.moves here.there (c.mark_of.ensures here.there here.is)) c.in_ok-push_some.ensures,
  c.in-Some.ensures.past,
)

pub returns-then-is_closed-clause-parts : goal.returns-then-is_closed-clause-parts
returns-then-is_closed-clause-parts c = λ are is.
    all_closed are _ _ _ (c.loop-at.invariant.0 are is) (omega (arith, c.loop-at-test.false, c.loop-at.auto.at-end) ∙ as_many _ _ are is)
    (c.is_closed.ensures.0 c.if-is_closed.true)

pub returns-else-is_closed-clause-fault : goal.returns-else-is_closed-clause-fault
returns-else-is_closed-clause-fault c = λ are is. rw c.fault_at-else-is_closed.ensures (
  all_unclosed _ are _ _ _ (c.loop-at.invariant.0 are is) (omega (arith, c.loop-at-test.false, c.loop-at.auto.at-end) ∙ as_many _ _ are is)
      (λ closed. let so = c.is_closed.ensures.1 closed in let no = c.if-is_closed.false in cc),
  refl,
)
