use Rattle.std.proofs.Common.{arith}
use Rattle.value_store.specs.declared.unit.StoreUnit.TheVariants as unit
use Rattle.value_store.proofs.NodeMade.{map-pushed}
use Rattle.value_store.proofs.cells.push_fields.Goals as goal

pub loop-field-preserved : goal.loop-field-preserved
loop-field-preserved c = record {
  items = map-pushed unit.Part c.args.fields.now c.loop-field.field-index _ c.args.units.now.units c.loop-field.units.units c.push_part.new.self.units c.loop-field-test.true c.loop-field.invariant.items c.push_part.ensures.units;
  room = let room = c.loop-field.invariant.room in omega (arith, c.push_part.ensures.spare, room);
}
