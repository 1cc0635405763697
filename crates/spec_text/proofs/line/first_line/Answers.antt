-- The line feed ends the line, or there is none.
use Rattle.std.proofs.Common.{refl}
use Rattle.spec_text.proofs.FirstLine.{ended_line, last_line}
use Rattle.spec_text.proofs.line.first_line.Goals as goal

pub returns-then-len-bytes-clause-begins : goal.returns-then-len-bytes-clause-begins
returns-then-len-bytes-clause-begins c =
    ended_line c.args.bytes.now _ _ _ c.len_to_feed-len.ensures.value c.if-len-bytes.true c.without_return.ensures.is refl

pub returns-else-len-bytes-clause-begins : goal.returns-else-len-bytes-clause-begins
returns-else-len-bytes-clause-begins c =
    last_line c.args.bytes.now _ _ c.len_to_feed-len.ensures.value c.if-len-bytes.false c.requires refl
