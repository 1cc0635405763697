-- A store with one more node, behind its parts.
use Rattle.std.proofs.Common.{◌≡◌, ℕ, ◌+◌, ◌-◌, ◌<◌, List, [], ◌∷◌, ◌++◌, length, map, Some, refl, sym, ap, ◌∙◌, subst, append_assoc, arith, length-append, suc, zero, min, append-nil, get_or, take}
use Rattle.std.specs.Prelude.{slice_get}
use Rattle.std.proofs.Math.Seq.{drop-append_seam, take-append_seam}
use Rattle.value_store.specs.MadeTrees.{made, node_count_all}
use Rattle.value_store.specs.Cells.{Cell, a_map, a_node, a_part, cell_of, cells_from, cells_of, AreMade, trees_at, children_in, fields_in, last_of, MakesNode}
use Rattle.value_store.specs.UnitFacts.{Says, SaysNode, part_of_child}
use Rattle.value_store.specs.declared.unit.NodeUnit.{NodeUnit}
use Rattle.value_store.specs.declared.unit.StoreUnit.{StoreUnit}
use Rattle.value_store.specs.declared.unit.StoreUnit.TheVariants as unit
use Rattle.value_store.specs.declared.value.Value.{Value}
use Rattle.value_store.specs.declared.value.Value.TheVariants as value
use Rattle.value_store.proofs.CellsStay.{from-append, cells_of-push, length-cells_of, slice_get-end, all-made-kept, trees-kept, AllSay, all-say-more}

pub part-says : (us : List StoreUnit) (v : Value) → Says (cells_of us ++ cell_of (cells_of us) (unit.Part v) ∷ []) (length us + 1) (unit.Part v)
part-says us v = rw (← length-cells_of us) (slice_get-end (cells_of us) (a_part v))

-- the children after the units of parts
pub parts-from : (done : List Cell) (vs : List Value) → cells_from done (map unit.Part vs) ≡ done ++ map a_part vs
parts-from done [] = sym (append-nil done)
parts-from done (v ∷ vs) = parts-from (done ++ a_part v ∷ []) vs ∙ append_assoc done (a_part v ∷ []) (map a_part vs)

pub parts-say : (us : List StoreUnit) (vs : List Value) → AllSay us → AllSay (us ++ map unit.Part vs)
parts-say us [] all = rw (append-nil us) all
parts-say us (v ∷ vs) all =
    subst AllSay (append_assoc us (unit.Part v ∷ []) (map unit.Part vs)) (parts-say (us ++ unit.Part v ∷ []) vs (all-say-more us (unit.Part v) all (part-says us v)))

pub children_in-parts : (children : List ℕ) → children_in (map a_part (map (λ c. value.Made c) children)) ≡ children
children_in-parts [] = refl
children_in-parts (c ∷ children) = ap (λ cs. c ∷ cs) (children_in-parts children)

pub fields_in-parts : (fields : List Value) → fields_in (map a_part fields) ≡ fields
fields_in-parts [] = refl
fields_in-parts (v ∷ fields) = ap (λ vs. v ∷ vs) (fields_in-parts fields)

pub last_of-append : {A : Type 0} (xs ys : List A) (n : ℕ) → n ≡ length ys → last_of n (xs ++ ys) ≡ ys
last_of-append xs ys n e =
    let all : length (xs ++ ys) - n ≡ length xs = omega (arith, e, length-append xs ys) in
    rw all (drop-append_seam xs ys)

pub take-front : {A : Type 0} (xs ys : List A) (n : ℕ) → n ≡ length xs → take n (xs ++ ys) ≡ xs
take-front xs ys n e = rw e (take-append_seam xs ys)

pub length-made : (children : List ℕ) → length (map (λ c. value.Made c) children) ≡ length children
length-made [] = refl
length-made (c ∷ children) = ap suc (length-made children)

pub length-parts : (vs : List Value) → length (map a_part vs) ≡ length vs
length-parts [] = refl
length-parts (c ∷ children) = ap suc (length-parts children)

pub map-append : {A B : Type 0} (f : A → B) (xs ys : List A) → map f (xs ++ ys) ≡ map f xs ++ map f ys
map-append f [] ys = refl
map-append f (x ∷ xs) ys = ap (λ zs. f x ∷ zs) (map-append f xs ys)

-- what a node after its parts is
pub node_cell : (old : List Cell) (u : NodeUnit) (children : List ℕ) (fields : List Value) → AreMade old children
    → u.children ≡ length children → u.fields ≡ length fields
    → cell_of (old ++ map a_part (map (λ c. value.Made c) children ++ fields)) (unit.Node u) ≡ a_node (made u.ty (trees_at old children) fields)
node_cell old u children fields are n k =
    let parts = map a_part (map (λ c. value.Made c) children ++ fields) in
    let split = map-append a_part (map (λ c. value.Made c) children) fields in
    let both : u.children + u.fields ≡ length parts =
    omega (arith, n, k, length-parts (map (λ c. value.Made c) children ++ fields), length-append (map (λ c. value.Made c) children) fields, length-made children) in
    let front : u.children ≡ length (map a_part (map (λ c. value.Made c) children)) =
    omega (arith, n, length-parts (map (λ c. value.Made c) children), length-made children) in
    let first : children_in (take u.children (last_of (u.children + u.fields) (old ++ parts))) ≡ children =
    ap (λ ts. children_in (take u.children ts)) (last_of-append old parts (u.children + u.fields) both)
    ∙ ap (λ ts. children_in (take u.children ts)) split
    ∙ ap children_in (take-front (map a_part (map (λ c. value.Made c) children)) (map a_part fields) u.children front)
    ∙ children_in-parts children in
    let whole : old ++ parts ≡ (old ++ map a_part (map (λ c. value.Made c) children)) ++ map a_part fields =
    ap (λ ts. old ++ ts) split ∙ sym (append_assoc old (map a_part (map (λ c. value.Made c) children)) (map a_part fields)) in
    let last : fields_in (last_of u.fields (old ++ parts)) ≡ fields =
    ap (λ ts. fields_in (last_of u.fields ts)) whole
    ∙ ap fields_in (last_of-append (old ++ map a_part (map (λ c. value.Made c) children)) (map a_part fields) u.fields (omega (arith, k, length-parts fields)))
    ∙ fields_in-parts fields in
    rw (first, last, trees-kept old parts children are) refl

pub slice_get-drop : {A : Type 0} (xs ys : List A) (k : ℕ) (j : ℕ) → j ≡ length xs + k → slice_get (xs ++ ys) j ≡ slice_get ys k
slice_get-drop [] ys k j e = let same : j ≡ k = omega (arith, e) in ap (λ n. slice_get ys n) same
slice_get-drop (x ∷ xs) ys k zero e = absurd (omega (arith, e))
slice_get-drop (x ∷ xs) ys k (suc j) e = slice_get-drop xs ys k j (omega (arith, e))

pub slice_get-front : {A : Type 0} (xs ys : List A) (k : ℕ) → k < length xs → slice_get (xs ++ ys) k ≡ slice_get xs k
slice_get-front [] ys k within = absurd (omega (arith, within))
slice_get-front (x ∷ xs) ys zero within = refl
slice_get-front (x ∷ xs) ys (suc k) within = slice_get-front xs ys k (omega (arith, within))

-- what the new unit says
pub node-says : (us : List StoreUnit) (u : NodeUnit) (children : List ℕ) (fields : List Value) → AreMade (cells_of us) children
    → u.children ≡ length children → u.fields ≡ length fields
    → u.nodes ≡ min (node_count_all (trees_at (cells_of us) children) + 1) 1048577
    → (ts : List Cell) → ts ≡ cells_of us ++ map a_part (map (λ c. value.Made c) children ++ fields)
    → SaysNode (ts ++ cell_of ts (unit.Node u) ∷ []) (length ts) u
node-says us u children fields are n k counted ts is =
    let parts = map a_part (map (λ c. value.Made c) children ++ fields) in
    let both : u.children + u.fields ≡ length parts =
    omega (arith, n, k, length-parts (map (λ c. value.Made c) children ++ fields), length-append (map (λ c. value.Made c) children) fields, length-made children) in
    let long : length ts ≡ length (cells_of us) + length parts = omega (arith, ap (λ x. length x) is, length-append (cells_of us) parts) in
    let are_now : AreMade ts children = subst (λ x. AreMade x children) (sym is) (all-made-kept (cells_of us) parts children are) in
    let same : trees_at ts children ≡ trees_at (cells_of us) children = ap (λ x. trees_at x children) is ∙ trees-kept (cells_of us) parts children are in
    let same_now = trees-kept ts (cell_of ts (unit.Node u) ∷ []) children are_now ∙ same in
    record {
      children = children;
      fields = fields;
      before = omega (arith, both, long, length-cells_of us);
      as_many_children = sym n;
      as_many_fields = sym k;
      part = λ j within.
          slice_get-front ts _ _ (omega (arith, within, both, long))
          ∙ ap (λ x. slice_get x (length ts - (u.children + u.fields) + j)) is
          ∙ slice_get-drop (cells_of us) parts j _ (omega (arith, both, long));
      made_before = all-made-kept ts _ children are_now;
      is = slice_get-end ts (cell_of ts (unit.Node u)) ∙ ap (λ x. Some (cell_of x (unit.Node u))) is
          ∙ ap Some (node_cell (cells_of us) u children fields are n k) ∙ ap (λ x. Some (a_node (made u.ty x fields))) (sym same_now);
      counted = rw same_now counted;
    }

-- a store with one more node
pub make_gives : (inside us new : List StoreUnit) (u : NodeUnit) (children : List ℕ) (fields : List Value) → AllSay inside → inside ≡ us
    → new ≡ (us ++ map unit.Part (map (λ c. value.Made c) children ++ fields)) ++ unit.Node u ∷ []
    → AreMade (cells_of us) children → u.children ≡ length children → u.fields ≡ length fields
    → u.nodes ≡ min (node_count_all (trees_at (cells_of us) children) + 1) 1048577
    → AllSay new × MakesNode (cells_of us) (cells_of new) u.ty children fields (length new)
make_gives inside us new u children fields all same pushed are n k counted =
    let vs = map (λ c. value.Made c) children ++ fields in
    let mid = us ++ map unit.Part vs in
    let before : AllSay us = subst AllSay same all in
    let midway : AllSay mid = parts-say us vs before in
    let is : cells_of mid ≡ cells_of us ++ map a_part vs = from-append (a_map [] ∷ []) us (map unit.Part vs) ∙ parts-from (cells_of us) vs in
    let says = node-says us u children fields are n k counted (cells_of mid) is in
    let now : cells_of new ≡ cells_of mid ++ cell_of (cells_of mid) (unit.Node u) ∷ [] = ap cells_of pushed ∙ cells_of-push mid (unit.Node u) in
    let at : length (cells_of mid) ≡ length mid + 1 = length-cells_of mid in
    let long : length new ≡ length (cells_of mid) = omega (arith, at, ap (λ x. length x) pushed, length-append mid (unit.Node u ∷ [])) in
    let node : cell_of (cells_of mid) (unit.Node u) ≡ a_node (made u.ty (trees_at (cells_of us) children) fields) =
    ap (λ x. cell_of x (unit.Node u)) is ∙ node_cell (cells_of us) u children fields are n k in (
      subst AllSay (sym pushed) (all-say-more mid (unit.Node u) midway (subst (λ x. SaysNode (cells_of mid ++ cell_of (cells_of mid) (unit.Node u) ∷ []) x u) at says)),
      record {
        next = omega (arith, long, ap (λ x. length x) is, length-append (cells_of us) (map a_part vs), length-parts vs, length-append (map (λ c. value.Made c) children) fields, length-made children);
        extends = now ∙ ap (λ x. x ++ cell_of (cells_of mid) (unit.Node u) ∷ []) is
            ∙ append_assoc (cells_of us) (map a_part vs) (cell_of (cells_of mid) (unit.Node u) ∷ [])
            ∙ ap (λ c. cells_of us ++ (map a_part vs ++ c ∷ [])) node;
        is = rw (now, long) (slice_get-end (cells_of mid) (cell_of (cells_of mid) (unit.Node u)) ∙ ap Some node);
      },
    )

-- a list with one more element than the front before
pub map-take-more : {A B : Type 0} (f : A → B) (xs : List A) (i : ℕ) (d : A) → i < length xs → map f (take (suc i) xs) ≡ map f (take i xs) ++ f (get_or xs i d) ∷ []
map-take-more f [] i d within = absurd (omega (arith, within))
map-take-more f (x ∷ xs) zero d within = refl
map-take-more f (x ∷ xs) (suc i) d within = ap (λ ys. f x ∷ ys) (map-take-more f xs i d (omega (arith, within)))

pub map-pushed : {A B : Type 0} (f : A → B) (xs : List A) (i : ℕ) (d : A) (old before now : List B) → i < length xs
    → before ≡ old ++ map f (take i xs) → now ≡ before ++ f (get_or xs i d) ∷ [] → now ≡ old ++ map f (take (i + 1) xs)
map-pushed f xs i d old before now within e is =
    is ∙ ap (λ ys. ys ++ f (get_or xs i d) ∷ []) e ∙ append_assoc old (map f (take i xs)) (f (get_or xs i d) ∷ []) ∙ ap (λ ys. old ++ ys) (sym (map-take-more f xs i d within)) ∙ (let next : suc i ≡ i + 1 = omega arith in ap (λ n. old ++ map f (take n xs)) next)

pub child_parts : (children : List ℕ) → map part_of_child children ≡ map unit.Part (map (λ c. value.Made c) children)
child_parts [] = refl
child_parts (c ∷ children) = ap (λ us. unit.Part (value.Made c) ∷ us) (child_parts children)

-- the units in the order in which they are pushed
pub pushed_parts : (inside us one two three new : List StoreUnit) (u : NodeUnit) (children : List ℕ) (fields : List Value) → inside ≡ us
    → one ≡ inside → two ≡ one ++ map part_of_child children → three ≡ two ++ map unit.Part fields → new ≡ three ++ unit.Node u ∷ []
    → new ≡ (us ++ map unit.Part (map (λ c. value.Made c) children ++ fields)) ++ unit.Node u ∷ []
pushed_parts inside us one two three new u children fields same a b d e =
    let parts = map-append unit.Part (map (λ c. value.Made c) children) fields in
    let mid : three ≡ us ++ map unit.Part (map (λ c. value.Made c) children ++ fields) =
    d ∙ ap (λ x. x ++ map unit.Part fields) (b ∙ ap (λ x. x ++ map part_of_child children) (a ∙ same) ∙ ap (λ x. us ++ x) (child_parts children))
    ∙ append_assoc us (map unit.Part (map (λ c. value.Made c) children)) (map unit.Part fields) ∙ ap (λ x. us ++ x) (sym parts) in
    e ∙ ap (λ x. x ++ unit.Node u ∷ []) mid
