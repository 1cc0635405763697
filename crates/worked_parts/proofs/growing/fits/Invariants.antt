use Rattle.std.proofs.Common.{◌≡◌, ◌<◌, ℕ, slice_get, Some}
use Rattle.ast_types.specs.Items.{child_families}
use Rattle.ast_types.specs.TypeTable.{type_at}
use Rattle.tree_store.specs.Forest.{node_at}
use Rattle.worked_parts.proofs.growing.fits.Given as goal

-- the children so far are of their families
abbrev pub invariant-loop-i : goal.invariant-loop-i
invariant-loop-i l = (k c f : ℕ) → k < l.i → slice_get l.children k ≡ Some c → slice_get (child_families (type_at l.types.types l.ty).items) k ≡ Some f
    → (type_at l.types.types (node_at l.tree c).ty).family ≡ f
