-- Each item so far has a type.
use Rattle.std.proofs.Common.{map}
use Rattle.node_spec.specs.within.AstSeen.{item_seen}
use Rattle.node_spec.proofs.AstUnknown.{ItemsBefore}
use Rattle.node_spec.proofs.unknown_lines.has_unknown_item.Given as goal

abbrev pub invariant-loop-item : goal.invariant-loop-item
invariant-loop-item l = ItemsBefore l.families (map item_seen l.items) l.item-index
