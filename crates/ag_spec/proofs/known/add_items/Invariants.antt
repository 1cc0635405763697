-- The items so far are met.
use Rattle.std.proofs.Common.{◌≡◌, map, take}
use Rattle.ck_base.specs.Numbered.{met}
use Rattle.ag_spec.specs.AgShapes.{pointed}
use Rattle.ag_spec.proofs.known.add_items.Given as goal

abbrev pub invariant-loop-item : goal.invariant-loop-item
invariant-loop-item l =
    l.names ≡ met l.initial.names (map (λ item. pointed l.family item.name) (take l.item-index l.items))
