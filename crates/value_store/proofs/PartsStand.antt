-- The unit of a cell, and where the parts of a made node stand.
use Rattle.std.proofs.Common.{◌≡◌, ℕ, ◌+◌, ◌-◌, ◌<◌, List, [], ◌∷◌, ◌++◌, length, map, Some, refl, sym, ap, ◌∙◌, subst, arith, suc, zero, min}
use Rattle.std.specs.Prelude.{slice_get, IsSome}
use Rattle.value_store.specs.MadeTrees.{node_count, type_of, child_at, children_of, fields_of}
use Rattle.value_store.specs.Cells.{Cell, a_part, tree_at, tree_in, cells_of, IsMap, IsMade, AreMade, trees_at}
use Rattle.value_store.specs.UnitFacts.{Says, SaysNode}
use Rattle.value_store.specs.declared.unit.MapUnit.{MapUnit}
use Rattle.value_store.specs.declared.unit.NodeUnit.{NodeUnit}
use Rattle.value_store.specs.declared.unit.StoreUnit.{StoreUnit}
use Rattle.value_store.specs.declared.unit.StoreUnit.TheVariants as unit
use Rattle.value_store.specs.declared.value.Value.{Value}
use Rattle.value_store.specs.declared.value.Value.TheVariants as value
use Rattle.value_store.proofs.CellsStay.{length-cells_of, first_cell, AllSay}

pub same_part : {v w : Value} → Some (a_part v) ≡ Some (a_part w) → v ≡ w
same_part e = cc

pub made_part : {c d : ℕ} → value.Made c ≡ value.Made d → c ≡ d
made_part e = cc

-- the unit of a map is an entry, and that of a made node a node
pub unit_of_map : (ts : List Cell) (m : ℕ) (u : StoreUnit) → IsMap ts m → Says ts m u → (e : MapUnit) × (u ≡ unit.Entry e)
unit_of_map ts m (unit.Entry e) is says = (e, refl)
unit_of_map ts m (unit.Node n) is says = let e = sym (says.is) ∙ is.is in cc
unit_of_map ts m (unit.Part v) is says = let e = sym says ∙ is.is in cc

pub unit_of_node : (ts : List Cell) (m : ℕ) (u : StoreUnit) → IsMade ts m → Says ts m u → (n : NodeUnit) × (u ≡ unit.Node n)
unit_of_node ts m (unit.Entry e) is says = let e = sym (says.is) ∙ is.is in cc
unit_of_node ts m (unit.Node n) is says = (n, refl)
unit_of_node ts m (unit.Part v) is says = let e = sym says ∙ is.is in cc

pub unit_of_part : (ts : List Cell) (m : ℕ) (u : StoreUnit) (v : Value) → slice_get ts m ≡ Some (a_part v) → Says ts m u → u ≡ unit.Part v
unit_of_part ts m (unit.Entry e) v is says = let e = sym (says.is) ∙ is in cc
unit_of_part ts m (unit.Node n) v is says = let e = sym (says.is) ∙ is in cc
unit_of_part ts m (unit.Part w) v is says = let e = sym says ∙ is in cc

pub nodes_of_made : (ts : List Cell) (m : ℕ) (u : NodeUnit) → SaysNode ts m u → u.nodes ≡ min (node_count (tree_at ts m)) 1048577
nodes_of_made ts m u says = rw (ap tree_in says.is) says.counted

pub type_of_made : (ts : List Cell) (m : ℕ) (u : NodeUnit) → SaysNode ts m u → u.ty ≡ type_of (tree_at ts m)
type_of_made ts m u says = rw (ap tree_in says.is) refl

-- a field is the part so far from the end
pub field_part : (children : List ℕ) (fields : List Value) (i j : ℕ) → i < length fields → j ≡ length children + i
    → (v : Value) × (slice_get fields i ≡ Some v) × (slice_get (map a_part (map (λ c. value.Made c) children ++ fields)) j ≡ Some (a_part v))
field_part [] [] i j within e = absurd (omega (arith, within))
field_part [] (v ∷ fields) zero zero within e = (v, refl, refl)
field_part [] (v ∷ fields) zero (suc j) within e = absurd (omega (arith, e))
field_part [] (v ∷ fields) (suc i) zero within e = absurd (omega (arith, e))
field_part [] (v ∷ fields) (suc i) (suc j) within e = field_part [] fields i j (omega (arith, within)) (omega (arith, e))
field_part (c ∷ children) fields i zero within e = absurd (omega (arith, e))
field_part (c ∷ children) fields i (suc j) within e = field_part children fields i j within (omega (arith, e))

pub child_part : (ts : List Cell) (children : List ℕ) (fields : List Value) (i : ℕ) → AreMade ts children → IsSome (child_at (trees_at ts children) i)
    → (c : ℕ) × (i < length children) × IsMade ts c × (child_at (trees_at ts children) i ≡ Some (tree_at ts c))
    × (slice_get (map a_part (map (λ c. value.Made c) children ++ fields)) i ≡ Some (a_part (value.Made c)))
child_part ts [] fields i are some = (cc)
child_part ts (c ∷ children) fields zero are some = (c, omega arith, are.0, refl, refl)
child_part ts (c ∷ children) fields (suc i) are some =
    let more = child_part ts children fields i are.1 some in
    (more.0, omega (arith, more.1), more.2, more.3, more.4)

pub unit_says : (us vs ws : List StoreUnit) (cell : ℕ) (u : StoreUnit) → AllSay us → us ≡ ws → vs ≡ us → 0 < cell
    → slice_get vs (cell - 1) ≡ Some u → Says (cells_of ws) cell u
unit_says us vs ws cell u all same is some at =
    rw (← same)
    (let says = all (cell - 1) u (rw is at at) in
    let next : cell - 1 + 1 ≡ cell = omega arith in
    subst (λ n. Says (cells_of us) n u) next says)

pub unit_there : (us vs ws : List StoreUnit) (cell : ℕ) → us ≡ ws → vs ≡ us → 0 < cell → cell < length (cells_of ws) → cell - 1 < length vs
unit_there us vs ws cell same is some within =
    omega (arith, length-cells_of us, ap (λ x. length (cells_of x)) same, ap (λ x. length x) is, within, some)

-- the first cell is a map
pub made_after_first : (us : List StoreUnit) (cell : ℕ) → IsMade (cells_of us) cell → 0 < cell
made_after_first us zero is = let e = sym (first_cell us) ∙ is.is in cc
made_after_first us (suc cell) is = omega arith

pub part_after_first : (us : List StoreUnit) (cell : ℕ) (v : Value) → slice_get (cells_of us) cell ≡ Some (a_part v) → 0 < cell
part_after_first us zero v is = let e = sym (first_cell us) ∙ is in cc
part_after_first us (suc cell) v is = omega arith

-- where the parts of a node stand
pub child_stands : (us : List StoreUnit) (cell i : ℕ) (u : NodeUnit) → SaysNode (cells_of us) cell u
    → IsSome (child_at (children_of (tree_at (cells_of us) cell)) i)
    → (c : ℕ) × (i < u.children) × IsMade (cells_of us) c
    × (child_at (children_of (tree_at (cells_of us) cell)) i ≡ Some (tree_at (cells_of us) c))
    × (slice_get (cells_of us) (cell - u.fields - u.children + i) ≡ Some (a_part (value.Made c)))
child_stands us cell i u says some =
    let node = ap tree_in says.is in
    let found = child_part (cells_of us) says.children says.fields i says.made_before (subst (λ t. IsSome (child_at (children_of t) i)) node some) in
    let at : cell - u.fields - u.children + i ≡ cell - (u.children + u.fields) + i = omega (arith, says.before) in
    let few : i < u.children = omega (arith, found.1, says.as_many_children) in
    (found.0, few, found.2, subst (λ t. child_at (children_of t) i ≡ Some (tree_at (cells_of us) found.0)) (sym node) found.3, rw at (says.part i (omega (arith, few)) ∙ found.4))

pub field_stands : (us : List StoreUnit) (cell i : ℕ) (u : NodeUnit) → SaysNode (cells_of us) cell u
    → i < length (fields_of (tree_at (cells_of us) cell))
    → (v : Value) × (slice_get (fields_of (tree_at (cells_of us) cell)) i ≡ Some v)
    × (slice_get (cells_of us) (cell - u.fields + i) ≡ Some (a_part v))
field_stands us cell i u says within =
    let node = ap tree_in says.is in
    let there : i < length says.fields = subst (λ t. i < length (fields_of t)) node within in
    let found = field_part says.children says.fields i (u.children + i) there (omega (arith, says.as_many_children)) in
    let at : cell - u.fields + i ≡ cell - (u.children + u.fields) + (u.children + i) = omega (arith, says.before) in
    (found.0, subst (λ t. slice_get (fields_of t) i ≡ Some found.0) (sym node) found.1, rw at (says.part (u.children + i) (omega (arith, there, says.as_many_fields)) ∙ found.2))
