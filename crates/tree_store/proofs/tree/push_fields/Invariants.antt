use Rattle.std.proofs.Common.{◌≡◌, ◌≤◌, ◌++◌, take}
use Rattle.std.specs.Prelude.{vec_capacity}
use Rattle.tree_store.proofs.tree.push_fields.Given as goal

abbrev pub invariant-loop-field : goal.invariant-loop-field
invariant-loop-field l = record {
  items : l.all.items ≡ l.initial.all.items ++ take l.field-index l.fields;
  room : vec_capacity l.initial.all ≤ vec_capacity l.all;
}
