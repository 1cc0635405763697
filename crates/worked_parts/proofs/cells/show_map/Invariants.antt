use Rattle.value_store.specs.Cells.{cells_of, IsMap}
use Rattle.worked_parts.proofs.cells.show_map.Given as goal

-- the last map is one
abbrev pub invariant-loop-number : goal.invariant-loop-number
invariant-loop-number l = IsMap (cells_of l.cells.units) l.map
