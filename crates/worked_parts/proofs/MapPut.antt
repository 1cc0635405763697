-- What a call that puts a pair in front gives is a map.
use Rattle.std.proofs.Common.{◌≡◌, ℕ, List, ◌∷◌, Some, slice_get}
use Rattle.value_store.specs.Cells.{Cell, a_map, pairs_at, IsMap, PutsPair}
use Rattle.value_store.specs.Maps.{Pair}
use Rattle.value_store.proofs.CellsStay.{slice_get-end}

pub map_put : (old new : List Cell) (m : ℕ) (pair : Pair) (cell : ℕ) → PutsPair old new m pair cell → IsMap new cell
map_put old new m pair cell put =
    let next = put.next in
    let extends = put.extends in
    let there : slice_get new cell ≡ Some (a_map (pair ∷ pairs_at old m)) = rw (extends, next) (slice_get-end old (a_map (pair ∷ pairs_at old m))) in
    record { pairs = pair ∷ pairs_at old m; is = there }
