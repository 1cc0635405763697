use Rattle.std.proofs.Common.{ℕ, ◌-◌, List, [], ◌∷◌}
use Rattle.std.specs.Prelude.{slice_index}
use Rattle.tree_store.specs.Forest.{Under}
use Rattle.tree_store.specs.Orders.{Preorder}
use Rattle.tree_store.proofs.NextInPreorder.{After}
use Rattle.tree_store.proofs.tree.Tree.next_in_preorder.Given as goal

abbrev pub invariant-loop-at : goal.invariant-loop-at
invariant-loop-at l = record {
  under : Under l.self l.root l.at;
  after : (order : List ℕ) → Preorder l.self (l.root ∷ []) order
      → After l.self (slice_index l.self-inside.parents.items) (slice_index l.self-inside.numbers.items) l.root order l.node l.at;
}

abbrev pub decreases-loop-at : goal.decreases-loop-at
decreases-loop-at l = l.root - l.at
