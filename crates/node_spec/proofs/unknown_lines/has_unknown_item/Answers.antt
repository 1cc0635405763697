-- Each turn looks at one item.
use Rattle.std.proofs.Common.{arith, map, refl}
use Rattle.node_spec.specs.within.AstSeen.{item_seen}
use Rattle.node_spec.proofs.AstUnknown.{item_here, item_more, items_all, item_at, items_end}
use Rattle.node_spec.proofs.unknown_lines.has_unknown_item.Goals as goal

pub loop-item-init : goal.loop-item-init
loop-item-init c = λ j item less at unknown. absurd (omega (arith, less))

pub returns-then-is_unknown_type : goal.returns-then-is_unknown_type
returns-then-is_unknown_type c =
    let at = item_at c.args.items.now c.loop-item.item-index _ _ refl c.loop-item-test.true in (
      (λ is. item_here c.args.families.now _ _ _ at (c.is_unknown_type.ensures.0 c.if-is_unknown_type.true)),
      (λ has. refl),
    )

pub loop-item-preserved : goal.loop-item-preserved
loop-item-preserved c =
    let at = item_at c.args.items.now c.loop-item.item-index _ _ refl c.loop-item-test.true in
    item_more c.args.families.now _ _ _ at c.loop-item.invariant
    (λ unknown. let is = c.is_unknown_type.ensures.1 unknown in let e = c.if-is_unknown_type.false in cc)

pub returns : goal.returns
returns c = (
  (λ is. cc),
  (λ has. absurd (items_all c.args.families.now (map item_seen c.args.items.now) c.loop-item.item-index
      (items_end c.args.items.now c.loop-item.item-index c.loop-item-test.false) c.loop-item.invariant has)),
)
