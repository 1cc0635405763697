-- None of the items so far is wrong.
use Rattle.std.proofs.Common.{map}
use Rattle.node_spec.specs.within.AstSeen.{item_seen}
use Rattle.node_spec.proofs.AstSides.{NoWrongItem}
use Rattle.node_spec.proofs.wrong_sides.has_wrong_item.Given as goal

abbrev pub invariant-loop-item : goal.invariant-loop-item
invariant-loop-item l = NoWrongItem l.families l.side (map item_seen l.items) l.item-index
