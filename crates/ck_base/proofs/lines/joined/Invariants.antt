-- The text is the parts before the place, one after the other.
use Rattle.std.proofs.Common.{◌≡◌, map, take}
use Rattle.std.specs.List.{concat}
use Rattle.ck_base.proofs.lines.joined.Given as goal

abbrev pub invariant-loop-part : goal.invariant-loop-part
invariant-loop-part l = l.text.items ≡ concat (map (λ part. part.now) (take l.part-index l.parts))
