use Rattle.std.proofs.Common.{reverse}
use Rattle.value_store.specs.Cells.{cells_of, tree_at}
use Rattle.tree_build.specs.within.Laying.{Laying, load}
use Rattle.tree_build.proofs.laying.lay_out.Given as goal

abbrev pub invariant-loop-task : goal.invariant-loop-task
invariant-loop-task l = Laying (cells_of l.cells.units) l.types (tree_at (cells_of l.cells.units) l.root) (reverse l.tasks.items) l.done.items l.tree

abbrev pub decreases-loop-task : goal.decreases-loop-task
decreases-loop-task l = load (cells_of l.cells.units) (reverse l.tasks.items)
