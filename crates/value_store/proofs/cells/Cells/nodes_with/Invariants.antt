use Rattle.std.proofs.Common.{◌≡◌, ◌+◌, ◌≤◌, min, drop}
use Rattle.value_store.specs.Cells.{cells_of, trees_at, AreMade}
use Rattle.value_store.specs.MadeTrees.{node_count_all}
use Rattle.value_store.proofs.cells.Cells.nodes_with.Given as goal

abbrev pub invariant-loop-child : goal.invariant-loop-child
invariant-loop-child l = record {
  made : AreMade (cells_of l.self.units) (drop l.child-index l.children);
  sum : min (l.nodes + node_count_all (trees_at (cells_of l.self.units) (drop l.child-index l.children))) 1048577
      ≡ min (node_count_all (trees_at (cells_of l.self.units) l.children) + 1) 1048577;
  few : l.nodes ≤ 1048577;
}
