use Rattle.std.proofs.Common.{◌≡◌, length}
use Rattle.lalr_look.proofs.NodesOf.{SetsSoFar}
use Rattle.lalr_look.proofs.lookahead_sets.looks_of.Given as goal

abbrev pub invariant-loop-item : goal.invariant-loop-item
invariant-loop-item l =
    (length l.looks.items ≡ l.item-index) × SetsSoFar l.g l.nodes l.sets l.core l.items l.looks.items
