use Rattle.std.proofs.Common.{◌≡◌, ◌+◌, length}
use Rattle.lalr_look.proofs.NodesOf.{TargetsSoFar}
use Rattle.lalr_look.proofs.lookahead_sets.targets_of.Given as goal

abbrev pub invariant-loop-found : goal.invariant-loop-found
invariant-loop-found l =
    (length l.targets.items ≡ l.g.terminals + l.g.nonterminals) × TargetsSoFar l.g l.moves l.found-index l.targets.items
