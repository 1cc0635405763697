-- REX stands first.
use Rattle.spec_text.proofs.Parting.{fits, found, first_part}
use Rattle.spec_text.proofs.read.rex_of.Goals as goal

pub first_of-requires : goal.first_of-requires
first_of-requires c = rw c.as_slice-parts.ensures.value (first_part 0 _ _ c.requires.1.sections.are).0

pub text_of-requires-clause-head : goal.text_of-requires-clause-head
text_of-requires-clause-head c =
    rw c.as_slice-lines.ensures.value
    (fits c.requires.0 c.args.s.now 0 _ c.requires.1 (rw c.as_slice-parts.ensures.value at c.first_of.ensures)).0

pub text_of-requires-clause-order : goal.text_of-requires-clause-order
text_of-requires-clause-order c =
    (fits c.requires.0 c.args.s.now 0 _ c.requires.1 (rw c.as_slice-parts.ensures.value at c.first_of.ensures)).1

pub text_of-requires-clause-within : goal.text_of-requires-clause-within
text_of-requires-clause-within c =
    rw c.as_slice-lines.ensures.value
    (fits c.requires.0 c.args.s.now 0 _ c.requires.1 (rw c.as_slice-parts.ensures.value at c.first_of.ensures)).2

pub returns : goal.returns
returns c = λ file are.
    let first = rw c.as_slice-parts.ensures.value at c.first_of.ensures in
    found file c.args.s.now 0 _ are first _ _ ((first_part 0 _ _ are.sections.are).1 _ first)
    (rw c.as_slice-lines.ensures.value at c.text_of.ensures.head) (rw c.as_slice-lines.ensures.value at c.text_of.ensures.lines)
