-- The numbers are printed in decimal, the last one at the end.
use Rattle.std.proofs.lemmas.List.{append-nil}
use Rattle.ck_base.proofs.lines.used_up.Goals as goal

pub returns : goal.returns
returns c =
    rw (← c.bytes.ensures, ← c.in_ok-need.ensures.ok, ← c.in_ok-have.ensures.ok, ← c.as_bytes.ensures.value, ← c.as_bytes-2.ensures.value, ← append-nil c.as_bytes-2.result.now)
    c.joined.ensures
