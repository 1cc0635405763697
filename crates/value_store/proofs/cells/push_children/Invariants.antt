use Rattle.std.proofs.Common.{◌≡◌, ◌+◌, ◌≤◌, ◌++◌, map, take}
use Rattle.value_store.specs.UnitFacts.{part_of_child}
use Rattle.value_store.proofs.cells.push_children.Given as goal

abbrev pub invariant-loop-child : goal.invariant-loop-child
invariant-loop-child l = record {
  items : l.units.units ≡ l.initial.units.units ++ map part_of_child (take l.child-index l.children);
  room : l.initial.units.spare ≤ l.units.spare + l.child-index;
}
