-- Each return of the reader: what is read, or that there is none.
use Rattle.std.proofs.Common.{length, refl, ap, arith}
use Rattle.std.proofs.lemmas.List.{length-map}
use Rattle.spec_text.specs.Seen.{seen}
use Rattle.expr_read.specs.Patterns.{some_in}
use Rattle.expr_read.proofs.OnePattern.{pattern_shrinks}
use Rattle.expr_read.proofs.PatternReads.{alone_read, named_tree_read, no_head, none_read, number_read, string_read, tree_read}
use Rattle.expr_read.proofs.PatternSayings.{says-NamedTree, says-Number, says-Text, says-Tree}
use Rattle.expr_read.proofs.PatternsSoFar.{first_pattern, next_pattern, no_end, no_next_pattern, one_more_said, row_ends}
use Rattle.expr_read.proofs.patterns.+patterns.Goals as goal

pub pattern-returns-in-Some : goal.pattern-returns-in-Some
pattern-returns-in-Some n c =
    let some = c.if-left-eq0.false in number_read _ _ _ _ _ (says-Number _) (omega (arith, some)) c.in-Some.ensures

pub pattern-returns-in-Some-text_of : goal.pattern-returns-in-Some-text_of
pattern-returns-in-Some-text_of n c =
    let some = c.if-left-eq0.false in string_read _ _ _ _ _ (says-Text _) (omega (arith, some)) c.in-Some-text_of.ensures

pub with_name-returns-in-Some : goal.with_name-returns-in-Some
with_name-returns-in-Some n c =
    tree_read _ _ _ _ c.in-Some.ensures _ _ _ (says-Tree _ _) c.requires.some c.requires.name
    (rw c.in-Some-2.is at c.in_ok-parts.ensures)

pub with_name-returns-in_default-after_sign : goal.with_name-returns-in_default-after_sign
with_name-returns-in_default-after_sign n c =
    alone_read _ _ _ _ c.word_alone.ensures c.requires.some c.requires.name c.in_default.ensures c.in_default-after_sign.ensures

pub with_name-returns-in_default-tree_head : goal.with_name-returns-in_default-tree_head
with_name-returns-in_default-tree_head n c = no_head _ _ _ _ c.in-Some-after_sign.ensures c.in_default-tree_head.ensures

pub with_name-returns : goal.with_name-returns
with_name-returns n c =
    named_tree_read _ _ _ _ c.in-Some-after_sign.ensures _ _ _ _ _ c.in-Some-tree_head.ensures (says-NamedTree _ _ _) c.requires.some
    c.requires.name (rw c.in-Some-3.is at c.in_ok-parts-2.ensures)

pub parts-returns-in-Some : goal.parts-returns-in-Some
parts-returns-in-Some n c =
    none_read _ _ _ _ c.in-Some.ensures (let none = c.into_bump_slice.ensures in let empty = c.new-none.ensures.items in rw (none, empty) refl)

pub parts-returns : goal.parts-returns
parts-returns n c = some_in _ _ _ _ (rw c.in-Some-2.is at c.in_ok-read.ensures)

pub row-loop-behind-init : goal.row-loop-behind-init
row-loop-behind-init n c =
    rw (c.in_ok-push.ensures.items, c.new-list.ensures.items) (first_pattern _ _ _ _ (rw c.in-Some.is at c.in_ok-first.ensures))

pub row-returns-in_default-2 : goal.row-returns-in_default-2
row-returns-in_default-2 n c =
    no_next_pattern _ _ _ _ c.loop-behind.invariant _ c.in-Some-after_sign.ensures (rw c.in_default-2.is at c.in_ok-next.ensures)

pub row-loop-behind-smaller : goal.row-loop-behind-smaller
row-loop-behind-smaller n c =
    let read = rw c.in-Some-2.is at c.in_ok-next.ensures in
    let less = pattern_shrinks _ _ _ _ read in
    let first = ap length c.in-Some-after_sign.ensures in
    let now = length-map c.in-Some-2.after.now seen in
    let before = length-map c.loop-behind.rest.now seen in
    let between = length-map c.in-Some-after_sign.behind.now seen in
    omega (arith, less, first, now, before, between)

pub row-loop-behind-preserved : goal.row-loop-behind-preserved
row-loop-behind-preserved n c =
    rw (one_more_said _ _ _ c.in_ok-push-2.ensures.items) (next_pattern _ _ _ _ c.loop-behind.invariant _ _ _
    c.in-Some-after_sign.ensures (rw c.in-Some-2.is at c.in_ok-next.ensures))

pub row-returns-in_default-after_sign-2 : goal.row-returns-in_default-after_sign-2
row-returns-in_default-after_sign-2 n c =
    no_end _ _ _ _ c.loop-behind.invariant c.in_default-after_sign.ensures c.in_default-after_sign-2.ensures

pub row-returns : goal.row-returns
row-returns n c =
    rw c.into_bump_slice.ensures (row_ends _ _ _ _ c.loop-behind.invariant _ c.in-Some-after_sign-2.ensures)
