-- The pairs of a map, one after the other from the newest on.
use Rattle.std.proofs.Common.{◌≡◌, ℕ, List, [], length, ap, arith}
use Rattle.value_store.specs.Cells.{Cell, pairs_at, pairs_in, cells_of}
use Rattle.value_store.specs.UnitFacts.{SaysEntry}
use Rattle.value_store.specs.declared.unit.MapUnit.{MapUnit}
use Rattle.value_store.specs.declared.unit.StoreUnit.{StoreUnit}
use Rattle.value_store.proofs.CellsStay.{first_cell}

-- the size of a map, by its unit
pub size_of_map : (ts : List Cell) (m : ℕ) (u : MapUnit) → SaysEntry ts m u → u.size ≡ length (pairs_at ts m)
size_of_map ts m u says = rw (ap pairs_in says.is) omega (arith, says.counted)

-- the map of no pairs
pub no_pairs : (us : List StoreUnit) → pairs_at (cells_of us) 0 ≡ []
no_pairs us = ap pairs_in (first_cell us)
