-- One item more is met.
use Rattle.std.proofs.Common.{◌≡◌, Some, arith}
use Rattle.std.specs.List.{slice_get}
use Rattle.spec_text.proofs.Lists.{get_at}
use Rattle.ag_spec.specs.AgShapes.{pointed}
use Rattle.ag_spec.proofs.ItemNames.{few_met, next_met}
use Rattle.ag_spec.proofs.known.add_items.Goals as goal

pub add_item-requires : goal.add_item-requires
add_item-requires c =
    let few = few_met (λ item. pointed c.args.family.now item.name) c.args.items.now c.loop-item.item-index _ _ c.loop-item.invariant in
    let size = c.requires in
    let less = c.loop-item-test.true in
    omega (arith, few, size, less)

pub loop-item-preserved : goal.loop-item-preserved
loop-item-preserved c =
    let at : slice_get c.args.items.now c.loop-item.item-index ≡ Some c.item-item.result =
    (rw c.item-item.is (get_at c.args.items.now c.loop-item.item-index _ c.loop-item-test.true)) in
    next_met (λ item. pointed c.args.family.now item.name) c.args.items.now c.loop-item.item-index _ _ _ _
    at c.loop-item.invariant c.in_ok-add_item.ensures
