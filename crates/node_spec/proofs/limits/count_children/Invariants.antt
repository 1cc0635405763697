-- The children among the items so far.
use Rattle.std.proofs.Common.{◌≡◌, ◌≤◌, [], length, map, take}
use Rattle.ast_types.specs.Items.{child_families}
use Rattle.node_spec.specs.AstTables.{item_of}
use Rattle.node_spec.specs.within.AstSeen.{item_seen}
use Rattle.node_spec.proofs.limits.count_children.Given as goal

abbrev pub invariant-loop-item : goal.invariant-loop-item
invariant-loop-item l =
    (l.count ≡ length (child_families (map (item_of []) (take l.item-index (map item_seen l.items))))) × (l.count ≤ l.item-index)
