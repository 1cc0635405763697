-- The items so far.
use Rattle.std.proofs.Common.{◌≡◌, map, take}
use Rattle.node_spec.specs.AstTables.{item_of}
use Rattle.node_spec.specs.within.AstSeen.{item_seen}
use Rattle.node_spec.proofs.table.items_with_types.Given as goal

abbrev pub invariant-loop-item : goal.invariant-loop-item
invariant-loop-item l = l.own.items ≡ map (item_of l.families.names) (map item_seen (take l.item-index l.items))
