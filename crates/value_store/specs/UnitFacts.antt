-- What one unit says of its cell, resting on cells before it alone. Only contracts within this crate cite it.
use Rattle.std.specs.Prelude.{◌≡◌, ℕ, ◌+◌, ◌-◌, ◌≤◌, ◌<◌, List, ◌∷◌, length, Some, slice_get, min}
use Rattle.value_store.specs.Cells.{Cell, a_map, a_node, a_part, pairs_at, trees_at, part_cells, IsMap, AreMade}
use Rattle.value_store.specs.MadeTrees.{made, node_count_all}
use Rattle.value_store.specs.declared.value.Value.{Value}
use Rattle.value_store.specs.declared.value.Value.TheVariants as value
use Rattle.value_store.specs.declared.unit.MapUnit.{MapUnit}
use Rattle.value_store.specs.declared.unit.NodeUnit.{NodeUnit}
use Rattle.value_store.specs.declared.unit.StoreUnit.{StoreUnit}
use Rattle.value_store.specs.declared.unit.StoreUnit.TheVariants as unit

pub record SaysEntry (cells : List Cell) (m : ℕ) (u : MapUnit) : Type 0 where
  pub before : u.older < m
  pub map : IsMap cells u.older
  pub is : slice_get cells m ≡ Some (a_map (record { key = u.key; number = u.number } ∷ pairs_at cells u.older))
  pub counted : u.size ≡ length (pairs_at cells u.older) + 1
  pub few : u.size ≤ m

pub record SaysNode (cells : List Cell) (c : ℕ) (u : NodeUnit) : Type 0 where
  pub children : List ℕ
  pub fields : List Value
  pub before : u.children + u.fields < c
  pub as_many_children : length children ≡ u.children
  pub as_many_fields : length fields ≡ u.fields
  pub part : (k : ℕ) → k < u.children + u.fields
      → slice_get cells (c - (u.children + u.fields) + k) ≡ slice_get (part_cells children fields) k
  pub made_before : AreMade cells children
  pub is : slice_get cells c ≡ Some (a_node (made u.ty (trees_at cells children) fields))
  pub counted : u.nodes ≡ min (node_count_all (trees_at cells children) + 1) 1048577

-- what the unit says of the cell
abbrev pub Says : List Cell → ℕ → StoreUnit → Type 0
Says cells c (unit.Entry u) = SaysEntry cells c u
Says cells c (unit.Node u) = SaysNode cells c u
Says cells c (unit.Part v) = slice_get cells c ≡ Some (a_part v)

-- a child as a unit of the store
abbrev pub part_of_child : ℕ → StoreUnit
part_of_child c = unit.Part (value.Made c)
