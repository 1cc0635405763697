use Rattle.std.proofs.Common.{◌≡◌, length}
use Rattle.worked_parts.proofs.growing.items.Given as goal

-- an item for each type so far
abbrev pub invariant-loop-of : goal.invariant-loop-of
invariant-loop-of l = length l.items.items ≡ l.of-index
