use Rattle.std.proofs.Common.{drop}
use Rattle.tree_store.specs.Forest.{children_at}
use Rattle.tree_store.specs.Links.{Chain}
use Rattle.tree_store.proofs.tree.Tree.child.Given as goal

abbrev pub invariant-loop-turn : goal.invariant-loop-turn
invariant-loop-turn l = Chain l.self-inside.nexts.items l.at (drop l.turn (children_at l.self l.node))
