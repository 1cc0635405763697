-- The tokens of the line are those of a line of the file.
use Rattle.std.proofs.Common.{refl, length}
use Rattle.std.proofs.lemmas.Option.{slice_get_read}
use Rattle.worked_parts.proofs.LineTokens.{tokens_of_line}
use Rattle.worked_parts.proofs.infix.line_of.Goals as goal

pub answer_of-requires : goal.answer_of-requires
answer_of-requires c =
    let lookup = c.in-Some.ensures.lookup in
    let got = slice_get_read c.as_slice.result.now (length c.as_slice.result.now) 1 c.in-Some.line.now refl lookup.3.0 lookup.1 in
    rw c.as_slice-in-Some.ensures.value (tokens_of_line c.as_bytes-bytes.result.now c.in-Ok.all 1 c.in-Some.line.now
    c.in-Ok.ensures.sections (rw c.as_slice.ensures.value at got))
