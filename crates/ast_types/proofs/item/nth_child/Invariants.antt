use Rattle.std.proofs.Common.{◌≡◌, drop}
use Rattle.std.specs.Prelude.{slice_get}
use Rattle.ast_types.specs.Items.{child_families}
use Rattle.ast_types.proofs.item.nth_child.Given as goal

abbrev pub invariant-loop-item : goal.invariant-loop-item
invariant-loop-item l = slice_get (child_families (drop l.item-index l.items)) l.left ≡ slice_get (child_families l.items) l.i
