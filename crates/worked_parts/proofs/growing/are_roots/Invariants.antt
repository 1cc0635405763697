use Rattle.std.proofs.Common.{◌≡◌, ◌<◌, ℕ, slice_get, Some, length}
use Rattle.tree_store.specs.Forest.{IsChild}
use Rattle.worked_parts.proofs.growing.are_roots.Given as goal

-- the nodes so far are there, and no children
abbrev pub invariant-loop-child : goal.invariant-loop-child
invariant-loop-child l = ((k c : ℕ) → k < l.child-index → slice_get l.children k ≡ Some c → c < length l.tree)
    × ((k c : ℕ) → k < l.child-index → slice_get l.children k ≡ Some c → (p i : ℕ) → IsChild l.tree p i c → ⊥)
