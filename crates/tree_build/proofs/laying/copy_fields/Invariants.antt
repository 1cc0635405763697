use Rattle.std.proofs.Common.{◌≡◌, take, map, length}
use Rattle.value_store.specs.Cells.{cells_of, tree_at}
use Rattle.value_store.specs.MadeTrees.{fields_of}
use Rattle.tree_store.specs.Fitting.{as_field}
use Rattle.tree_build.proofs.laying.copy_fields.Given as goal

abbrev pub invariant-loop-i : goal.invariant-loop-i
invariant-loop-i l = (length l.into ≡ 8) × (take l.i l.into ≡ map as_field (take l.i (fields_of (tree_at (cells_of l.cells.units) l.cell))))
