use Rattle.value_store.specs.Cells.{cells_of, IsMade}
use Rattle.worked_parts.proofs.cells.show_doubled.Given as goal

-- the last node is one
abbrev pub invariant-loop-turn : goal.invariant-loop-turn
invariant-loop-turn l = IsMade (cells_of l.cells.units) l.top
