use Rattle.std.proofs.Common.{◌≡◌, ◌+◌, ◌≤◌, length, drop}
use Rattle.ast_types.specs.Items.{child_families}
use Rattle.ast_types.proofs.item.count_children.Given as goal

abbrev pub invariant-loop-item : goal.invariant-loop-item
invariant-loop-item l = record {
  few : l.count ≤ l.item-index;
  same : l.count + length (child_families (drop l.item-index l.items)) ≡ length (child_families l.items);
}
