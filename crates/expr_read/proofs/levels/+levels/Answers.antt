-- Each return of the reader: what is read, or that there is none.
use Rattle.std.proofs.Common.{◌+◌, length, refl, ap, ◌∙◌, arith}
use Rattle.std.proofs.lemmas.List.{length-map}
use Rattle.spec_text.specs.Seen.{seen}
use Rattle.expr_read.specs.Spoken.{grouped}
use Rattle.expr_read.specs.within.Wholes.{Whole}
use Rattle.expr_read.specs.Writing.{spoken_of}
use Rattle.expr_read.proofs.Chains.{chain_none, chain_first, chain_no_right, chain_again, chain_deep, chain_more, chain_end, prefix_read, plain_read}
use Rattle.expr_read.proofs.Conditions.{other_read, behind_if_read, no_then, no_first, no_else, no_second, if_read}
use Rattle.expr_read.proofs.Nesting.{none_left, whole_shrinks}
use Rattle.expr_read.proofs.Primaries.{leaf_read, group_read, no_close, in_group, named_none, named_read, call_read}
use Rattle.expr_read.proofs.OperatorRows.{nothing_inside, inside_read, row_first, row_no_next, row_more, row_no_close, row_end, one_said}
use Rattle.expr_read.proofs.Sayings.{says-Grouped, says-Applied}
use Rattle.expr_read.proofs.levels.+levels.Goals as goal

pub chain-returns-in_default : goal.chain-returns-in_default
chain-returns-in_default n c =
    chain_none c.args.level (c.args.level + 1) c.args.left _ c.requires.0 c.requires.1 (omega arith)
    (rw c.in_default.is at c.in_ok-first.ensures)

pub chain-loop-op-init : goal.chain-loop-op-init
chain-loop-op-init n c =
    chain_first c.args.level (c.args.level + 1) c.args.left _ c.requires.0 c.requires.1 (omega arith) _ _ _
    (rw c.in-Some.is at c.in_ok-first.ensures)

pub chain-returns-in_default-2 : goal.chain-returns-in_default-2
chain-returns-in_default-2 n c =
    chain_no_right _ (c.args.level + 1) _ _ _ _ _ _ _ (omega arith) c.loop-op.invariant c.in-Some-operator_at.ensures
    (rw c.in_default-2.is at c.in_ok-right.ensures)

pub chain-returns-then-is_compared_again : goal.chain-returns-then-is_compared_again
chain-returns-then-is_compared_again n c =
    chain_again _ (c.args.level + 1) _ _ _ _ _ _ _ (omega arith) c.loop-op.invariant c.in-Some-operator_at.ensures _ _ _
    (rw c.in-Some-2.is at c.in_ok-right.ensures) (c.is_compared_again.ensures.yes c.if-is_compared_again.true)

pub chain-returns-then-deepest-left : goal.chain-returns-then-deepest-left
chain-returns-then-deepest-left n c =
    let most = c.max-deepest.ensures in
    let more = c.if-deepest-left.true in
    chain_deep _ (c.args.level + 1) _ _ _ _ _ _ _ (omega arith) c.loop-op.invariant c.in-Some-operator_at.ensures _ _ _
    (rw c.in-Some-2.is at c.in_ok-right.ensures) (omega (arith, most, more))

pub chain-loop-op-preserved : goal.chain-loop-op-preserved
chain-loop-op-preserved n c =
    let most = c.max-deepest.ensures in
    let less = c.if-deepest-left.false in
    let deep = c.in_ok-read.ensures.deep in
    chain_more _ (c.args.level + 1) _ _ _ _ _ _ _ (omega arith) c.loop-op.invariant c.in-Some-operator_at.ensures _ _ _
    (rw c.in-Some-2.is at c.in_ok-right.ensures) (c.is_compared_again.ensures.no (λ is. cc)) _ c.in_ok-read.ensures.says _
    (omega (arith, most, deep)) (omega (arith, most, less, deep))

pub chain-returns : goal.chain-returns
chain-returns n c = chain_end _ _ _ _ _ _ c.loop-op.invariant c.in_default-operator_at.ensures

pub conditional-returns-in_default-after_word : goal.conditional-returns-in_default-after_word
conditional-returns-in_default-after_word n c =
    no_then _ _ _ _ _ (rw c.in-Some.is at c.in_ok-test.ensures) c.in_default-after_word.ensures

pub conditional-returns-in_default-2 : goal.conditional-returns-in_default-2
conditional-returns-in_default-2 n c =
    no_first _ _ _ _ _ (rw c.in-Some.is at c.in_ok-test.ensures) _ c.in-Some-after_word.ensures
    (rw c.in_default-2.is at c.in_ok-first.ensures)

pub conditional-returns-in_default-after_word-2 : goal.conditional-returns-in_default-after_word-2
conditional-returns-in_default-after_word-2 n c =
    no_else _ _ _ _ _ (rw c.in-Some.is at c.in_ok-test.ensures) _ c.in-Some-after_word.ensures _ _ _
    (rw c.in-Some-2.is at c.in_ok-first.ensures) c.in_default-after_word-2.ensures

pub conditional-returns-in_default-3 : goal.conditional-returns-in_default-3
conditional-returns-in_default-3 n c =
    no_second _ _ _ _ _ (rw c.in-Some.is at c.in_ok-test.ensures) _ c.in-Some-after_word.ensures _ _ _
    (rw c.in-Some-2.is at c.in_ok-first.ensures) _ c.in-Some-after_word-2.ensures (rw c.in_default-3.is at c.in_ok-second.ensures)

pub conditional-returns : goal.conditional-returns
conditional-returns n c =
    if_read _ _ _ _ _ (rw c.in-Some.is at c.in_ok-test.ensures) _ c.in-Some-after_word.ensures _ _ _
    (rw c.in-Some-2.is at c.in_ok-first.ensures) _ c.in-Some-after_word-2.ensures _ _ _
    (rw c.in-Some-3.is at c.in_ok-second.ensures) c.requires _ c.in_ok-read.ensures.says _ c.in_ok-read.ensures.deep

pub group-returns-in_default-after_sign : goal.group-returns-in_default-after_sign
group-returns-in_default-after_sign n c =
    no_close _ _ _ _ _ (rw c.in-Some.is at c.in_ok-part.ensures) c.in_default-after_sign.ensures

pub group-returns : goal.group-returns
group-returns n c =
    in_group _ _ _ _ _ (rw c.in-Some.is at c.in_ok-part.ensures) _ c.in-Some-after_sign.ensures c.requires _
    (says-Grouped _ ∙ ap (λ w. grouped (spoken_of w)) c.in_ok-body.ensures) _ refl

pub arguments-returns-in-Some : goal.arguments-returns-in-Some
arguments-returns-in-Some n c = nothing_inside _ _ _ _ c.in-Some.ensures (let none = c.into_bump_slice.ensures in let empty = c.new-parts.ensures.items in rw (none, empty) refl) c.requires

pub arguments-returns : goal.arguments-returns
arguments-returns n c = inside_read _ _ c.in_default.ensures _ _ _ (rw c.in-Some-2.is at c.in_ok-read.ensures)

pub named-returns : goal.named-returns
named-returns n c =
    call_read _ _ _ _ c.in-Some.ensures _ _ _ (rw c.in-Some-2.is at c.in_ok-arguments.ensures) _ (says-Applied _ _) _ refl

pub prefixed-returns-in_default : goal.prefixed-returns-in_default
prefixed-returns-in_default n c =
    plain_read _ _ c.in_default.ensures _ _ _ (rw c.in-Some-2.is at c.in_ok-plain.ensures)

pub prefixed-returns : goal.prefixed-returns
prefixed-returns n c =
    let some = c.if-left-eq0.false in
    prefix_read _ _ _ _ c.in-Some.ensures (omega (arith, some)) _ _ _ (rw c.in-Some-3.is at c.in_ok-part.ensures) _ c.in_ok-read.ensures.says _
    c.in_ok-read.ensures.deep

pub primary-returns-then-left-eq0 : goal.primary-returns-then-left-eq0
primary-returns-then-left-eq0 n c =
    let none = c.if-left-eq0.true in none_left (Whole 7) _ _ (omega (arith, none))

pub primary-returns-in-Some : goal.primary-returns-in-Some
primary-returns-in-Some n c =
    let some = c.if-left-eq0.false in leaf_read _ _ _ _ c.in-Some.ensures.reading c.in-Some.ensures.flat (λ none. omega (arith, some, none))

pub primary-returns-in-Some-after_sign : goal.primary-returns-in-Some-after_sign
primary-returns-in-Some-after_sign n c =
    group_read _ _ _ c.in-Some-after_sign.ensures _ _ _ (rw c.in-Some-2.is at c.in_ok-inner.ensures)

pub primary-returns-in_default-3 : goal.primary-returns-in_default-3
primary-returns-in_default-3 n c =
    named_none _ _ _ _ c.in-Some-name_of.ensures (c.if-not-is_name.ensures.0 refl) (rw c.in_default-3.is at c.in_ok-read.ensures)

pub primary-returns : goal.primary-returns
primary-returns n c =
    named_read _ _ _ _ c.in-Some-name_of.ensures (c.if-not-is_name.ensures.0 refl) _ _ _ (rw c.in-Some-3.is at c.in_ok-read.ensures)

pub row-loop-behind-init : goal.row-loop-behind-init
row-loop-behind-init n c =
    rw (c.in_ok-push.ensures.items, c.new-parts.ensures.items) (row_first _ _ c.requires _ _ _ (rw c.in-Some.is at c.in_ok-first.ensures))

pub row-returns-in_default-2 : goal.row-returns-in_default-2
row-returns-in_default-2 n c =
    row_no_next _ _ _ _ _ c.loop-behind.invariant _ c.in-Some-after_sign.ensures (rw c.in_default-2.is at c.in_ok-next.ensures)

pub row-loop-behind-smaller : goal.row-loop-behind-smaller
row-loop-behind-smaller n c =
    let read = rw c.in-Some-2.is at c.in_ok-next.ensures in
    let less = whole_shrinks 0 _ _ _ read.is in
    let first = ap length c.in-Some-after_sign.ensures in
    let now = length-map c.in-Some-2.after.now seen in
    let before = length-map c.loop-behind.rest.now seen in
    let between = length-map c.in-Some-after_sign.behind.now seen in
    omega (arith, less, first, now, before, between)

pub row-loop-behind-preserved : goal.row-loop-behind-preserved
row-loop-behind-preserved n c =
    rw (one_said _ _ _ c.in_ok-push-2.ensures.items) (row_more _ _ _ _ _ c.loop-behind.invariant _ _ _ _ c.requires
    c.in-Some-after_sign.ensures (rw c.in-Some-2.is at c.in_ok-next.ensures) _ c.max-deepest.ensures)

pub row-returns-in_default-after_sign-2 : goal.row-returns-in_default-after_sign-2
row-returns-in_default-after_sign-2 n c =
    row_no_close _ _ _ _ _ c.loop-behind.invariant c.in_default-after_sign.ensures c.in_default-after_sign-2.ensures

pub row-returns : goal.row-returns
row-returns n c =
    rw c.into_bump_slice.ensures (row_end _ _ _ _ _ c.loop-behind.invariant _ c.in-Some-after_sign-2.ensures)

pub whole-returns-in_default : goal.whole-returns-in_default
whole-returns-in_default n c =
    other_read _ _ c.in_default.ensures _ _ _ (rw c.in-Some-2.is at c.in_ok-other.ensures)

pub whole-returns : goal.whole-returns
whole-returns n c =
    behind_if_read _ _ _ c.in-Some.ensures _ _ _ (rw c.in-Some-3.is at c.in_ok-read.ensures)
