use Rattle.std.proofs.Common.{◌≡◌, ◌+◌, ◌≤◌, ◌++◌, map, take}
use Rattle.value_store.specs.declared.unit.StoreUnit.TheVariants as unit
use Rattle.value_store.proofs.cells.push_fields.Given as goal

abbrev pub invariant-loop-field : goal.invariant-loop-field
invariant-loop-field l = record {
  items : l.units.units ≡ l.initial.units.units ++ map unit.Part (take l.field-index l.fields);
  room : l.initial.units.spare ≤ l.units.spare + l.field-index;
}
