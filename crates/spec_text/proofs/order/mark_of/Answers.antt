-- The one token of the line, by its sort.
use Rattle.std.proofs.Common.{ap, sym, ◌∙◌, length, arith}
use Rattle.std.specs.List.{slice_get}
use Rattle.spec_text.proofs.Lists.{get_at}
use Rattle.spec_text.proofs.Views.{is_spelled, word_mark, other_plain, good_line, not_word}
use Rattle.spec_text.proofs.order.mark_of.Goals as goal

pub bytes_at-requires : goal.bytes_at-requires
bytes_at-requires c =
    let first = ap (λ l. slice_get l 0) (sym c.as_slice.ensures.value) ∙ get_at c.as_slice.result.now 0 _ c.in-len1.len_at_least in
    is_spelled _ _ c.requires.0 0 _ c.requires.1 first

pub returns-in-Word : goal.returns-in-Word
returns-in-Word c = λ is it.
    let first = ap (λ l. slice_get l 0) (sym c.as_slice.ensures.value) ∙ get_at c.as_slice.result.now 0 _ c.in-len1.len_at_least in
    let long = ap length (sym c.as_slice.ensures.value) ∙ omega (arith, c.in-len1.len_at_least, c.in-len1.len_below) in
    word_mark _ _ _ is _ it long first (good_line _ (sym c.is_some.ensures ∙ c.if-is_some.false)) c.in-Word.is
    (rw c.bytes_at.ensures at c.mark_of_word.ensures)

pub returns-in-Number : goal.returns-in-Number
returns-in-Number c = λ is it.
    let first = ap (λ l. slice_get l 0) (sym c.as_slice.ensures.value) ∙ get_at c.as_slice.result.now 0 _ c.in-len1.len_at_least in
    let long = ap length (sym c.as_slice.ensures.value) ∙ omega (arith, c.in-len1.len_at_least, c.in-len1.len_below) in
    other_plain _ _ _ is it long first (not_word _ c.in-Number.is)
