-- What the cells of a store are: maps, made nodes, and the parts of nodes.
use Rattle.std.specs.Prelude.{◌≡◌, ℕ, ◌+◌, ◌-◌, List, [], ◌∷◌, ◌++◌, length, take, drop, map, Option, Some, slice_get}
use Rattle.value_store.specs.Maps.{Pair}
use Rattle.value_store.specs.MadeTrees.{MadeTree, MadeTrees, made, no_trees, and_trees}
use Rattle.value_store.specs.declared.value.Value.{Value}
use Rattle.value_store.specs.declared.value.Value.TheVariants as value
use Rattle.value_store.specs.declared.unit.StoreUnit.{StoreUnit}
use Rattle.value_store.specs.declared.unit.StoreUnit.TheVariants as unit

-- what a cell is
pub data Cell : Type 0 where
  a_map : List Pair → Cell
  a_node : MadeTree → Cell
  a_part : Value → Cell

-- the pairs of a map's cell, else none
abbrev pub pairs_in : Option Cell → List Pair
pairs_in (Some (a_map pairs)) = pairs
pairs_in _ = []

-- the tree of a node's cell, else one of type 0 without parts
abbrev pub tree_in : Option Cell → MadeTree
tree_in (Some (a_node t)) = t
tree_in _ = made 0 no_trees []

-- the pairs of the map in a cell, newest first
abbrev pub pairs_at : List Cell → ℕ → List Pair
pairs_at cells m = pairs_in (slice_get cells m)

-- the tree of the made node in a cell
abbrev pub tree_at : List Cell → ℕ → MadeTree
tree_at cells c = tree_in (slice_get cells c)

-- the trees of cells
abbrev pub trees_at : List Cell → List ℕ → MadeTrees
trees_at cells [] = no_trees
trees_at cells (c ∷ cs) = and_trees (tree_at cells c) (trees_at cells cs)

-- the cell is a map
pub record IsMap (cells : List Cell) (m : ℕ) : Type 0 where
  pub pairs : List Pair
  pub is : slice_get cells m ≡ Some (a_map pairs)

-- the cell is a made node
pub record IsMade (cells : List Cell) (c : ℕ) : Type 0 where
  pub tree : MadeTree
  pub is : slice_get cells c ≡ Some (a_node tree)

-- all of them are made nodes
abbrev pub AreMade : List Cell → List ℕ → Type 0
AreMade cells [] = Unit {0}
AreMade cells (c ∷ cs) = IsMade cells c × AreMade cells cs

-- the cells of children among parts
abbrev pub children_in : List Cell → List ℕ
children_in [] = []
children_in (a_part (value.Made c) ∷ cells) = c ∷ children_in cells
children_in (_ ∷ cells) = children_in cells

-- the values of fields among parts
abbrev pub fields_in : List Cell → List Value
fields_in [] = []
fields_in (a_part v ∷ cells) = v ∷ fields_in cells
fields_in (_ ∷ cells) = fields_in cells

-- the last n of a list
abbrev pub last_of : {A : Type 0} → ℕ → List A → List A
last_of n xs = drop (length xs - n) xs

-- what a unit after these cells is: a map has one pair more than an older one, a node the parts before it
abbrev pub cell_of : List Cell → StoreUnit → Cell
cell_of before (unit.Entry u) = a_map (record { key = u.key; number = u.number } ∷ pairs_at before u.older)
cell_of before (unit.Node u) =
    a_node (made u.ty (trees_at before (children_in (take u.children (last_of (u.children + u.fields) before))))
    (fields_in (last_of u.fields before)))
cell_of before (unit.Part v) = a_part v

-- the cells after these units, one unit after the other
abbrev pub cells_from : List Cell → List StoreUnit → List Cell
cells_from before [] = before
cells_from before (u ∷ us) = cells_from (before ++ cell_of before u ∷ []) us

-- the cells of a store: cell 0 is the map of no pairs, and cell n + 1 is what unit n makes
abbrev pub cells_of : List StoreUnit → List Cell
cells_of units = cells_from (a_map [] ∷ []) units

-- a store as contracts see it: its units, and for how many more there is room
pub record Store : Type 0 where
  pub units : List StoreUnit
  pub spare : ℕ

-- the cells of a node's parts: its children, then its fields
abbrev pub part_cells : List ℕ → List Value → List Cell
part_cells children fields = map a_part (map (λ c. value.Made c) children ++ fields)

-- a call put a pair before those of a map: old cells stay, and one comes behind them
pub record PutsPair (old new : List Cell) (m : ℕ) (pair : Pair) (cell : ℕ) : Type 0 where
  pub next : cell ≡ length old
  pub extends : new ≡ old ++ a_map (pair ∷ pairs_at old m) ∷ []

-- a call made a node: old cells stay, its parts come behind them, and then the node
pub record MakesNode (old new : List Cell) (ty : ℕ) (children : List ℕ) (fields : List Value) (cell : ℕ) : Type 0 where
  pub next : cell ≡ length old + length children + length fields
  pub extends : new ≡ old ++ (part_cells children fields ++ a_node (made ty (trees_at old children) fields) ∷ [])
  pub is : slice_get new cell ≡ Some (a_node (made ty (trees_at old children) fields))
