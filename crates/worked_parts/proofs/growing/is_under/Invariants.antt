use Rattle.std.proofs.Common.{◌<◌, length}
use Rattle.tree_store.specs.Forest.{Under}
use Rattle.worked_parts.proofs.growing.is_under.Given as goal

-- where the node that was reached is under the root, the first one is
abbrev pub invariant-loop-turn : goal.invariant-loop-turn
invariant-loop-turn l = (l.at < length l.tree) × (Under l.tree l.root l.at → Under l.tree l.root l.node)
