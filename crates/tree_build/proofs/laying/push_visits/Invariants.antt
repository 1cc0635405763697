use Rattle.std.proofs.Common.{reverse}
use Rattle.value_store.specs.Cells.{cells_of, tree_at}
use Rattle.value_store.specs.MadeTrees.{children_of}
use Rattle.tree_build.specs.within.Laying.{Visits, trees_from}
use Rattle.tree_build.proofs.laying.push_visits.Given as goal

abbrev pub invariant-loop-i : goal.invariant-loop-i
invariant-loop-i l = Visits (cells_of l.cells.units) (trees_from l.i (children_of (tree_at (cells_of l.cells.units) l.cell))) (reverse l.fn.tasks.items) (reverse l.tasks.items)
