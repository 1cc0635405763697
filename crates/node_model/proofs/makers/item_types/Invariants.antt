-- The types of the items so far.
use Rattle.std.proofs.Common.{◌≡◌, map, take}
use Rattle.node_model.proofs.makers.item_types.Given as goal

abbrev pub invariant-loop-item : goal.invariant-loop-item
invariant-loop-item l = l.types.items ≡ map (λ item. item.of) (take l.item-index l.items)
