-- The numbers are printed in decimal, the line's before the column's.
use Rattle.std.proofs.lemmas.List.{append-nil}
use Rattle.ck_base.proofs.lines.placed.Goals as goal

pub returns : goal.returns
returns c =
    rw (← c.in_ok-line.ensures.ok, ← c.in_ok-col.ensures.ok, ← c.as_bytes.ensures.value, ← c.as_bytes-2.ensures.value, ← append-nil c.args.what.now)
    c.joined.ensures
