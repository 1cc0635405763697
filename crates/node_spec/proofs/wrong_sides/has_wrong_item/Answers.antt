-- Each turn looks at one item.
use Rattle.std.proofs.Common.{refl}
use Rattle.node_spec.proofs.AstSides.{wrong_here, one_right, all_right}
use Rattle.node_spec.proofs.wrong_sides.has_wrong_item.Goals as goal

pub returns-then-is_wrong_item : goal.returns-then-is_wrong_item
returns-then-is_wrong_item c = (
  λ is. wrong_here c.args.families.now c.args.side c.args.items.now c.loop-item.item-index _ c.loop-item-test.true
      (c.is_wrong_item.ensures.0 c.if-is_wrong_item.true),
  λ has. refl,
)

pub loop-item-preserved : goal.loop-item-preserved
loop-item-preserved c =
    one_right c.args.families.now c.args.side c.args.items.now c.loop-item.item-index _ c.loop-item.invariant c.loop-item-test.true
    (λ wrong. let is = c.is_wrong_item.ensures.1 wrong in let e = c.if-is_wrong_item.false in cc)

pub returns : goal.returns
returns c = (
  λ is. cc,
  λ has. absurd (all_right c.args.families.now c.args.side c.args.items.now c.loop-item.item-index c.loop-item-test.false c.loop-item.invariant has),
)
