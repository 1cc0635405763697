use Rattle.std.proofs.Common.{arith}
use Rattle.value_store.specs.UnitFacts.{part_of_child}
use Rattle.value_store.proofs.NodeMade.{map-pushed}
use Rattle.value_store.proofs.cells.push_children.Goals as goal

pub loop-child-preserved : goal.loop-child-preserved
loop-child-preserved c = record {
  items = map-pushed part_of_child c.args.children.now c.loop-child.child-index _ c.args.units.now.units c.loop-child.units.units c.push_part.new.self.units c.loop-child-test.true c.loop-child.invariant.items c.push_part.ensures.units;
  room = let room = c.loop-child.invariant.room in omega (arith, c.push_part.ensures.spare, room);
}
