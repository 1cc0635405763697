use Rattle.std.proofs.Common.{◌≡◌, ℕ, ◌<◌, List, [], ◌∷◌, length}
use Rattle.std.specs.Prelude.{slice_index}
use Rattle.tree_store.specs.Orders.{Postorder}
use Rattle.tree_store.proofs.NextInPostorder.{Comes}
use Rattle.tree_store.proofs.tree.Tree.next_in_postorder.Given as goal

abbrev pub invariant-loop-first : goal.invariant-loop-first
invariant-loop-first l = record {
  within : l.at < length l.self;
  small : l.first < 4294967296;
  link : l.first ≡ slice_index l.self-inside.firsts.items l.at;
  comes : (order : List ℕ) → Postorder l.self (l.root ∷ []) order → Comes l.self order l.node l.at;
}

abbrev pub decreases-loop-first : goal.decreases-loop-first
decreases-loop-first l = l.at
