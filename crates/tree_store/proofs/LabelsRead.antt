-- The nodes that labels are, and labels after a node was added.
use Rattle.std.proofs.Common.{◌≡◌, ℕ, ◌+◌, ◌<◌, ◌≤◌, List, [], ◌∷◌, ◌++◌, length, take, drop, map, Some, refl, sym, ap, ◌∙◌, arith, suc, zero, length-append, ◌⊎◌, inl, inr}
use Rattle.std.specs.Prelude.{slice_get, slice_index, option_map}
use Rattle.std.proofs.lemmas.List.{take-append-le, drop-append-le, take_all, length-map}
use Rattle.std.proofs.lemmas.Option.{slice_get-map}
use Rattle.std.proofs.Math.Seq.{drop-append_seam}
use Rattle.value_store.specs.declared.value.Value.{Value}
use Rattle.tree_store.specs.declared.tree.Label.{Label}
use Rattle.tree_store.specs.Forest.{Node, node_at}
use Rattle.tree_store.specs.Links.{Labelled, label_of, chain, nodes_from, IsLinkedTree}
use Rattle.tree_store.proofs.LinksAgree.{length-nodes}

abbrev pub node_of : List ℕ → ℕ → Labelled → Node
node_of nexts first label = record { ty = label.ty; children = chain nexts 8 first; fields = label.fields }

pub node_read : (nexts : List ℕ) (labels : List Labelled) (firsts : List ℕ) (n : ℕ) (label : Labelled) → length firsts ≡ length labels
    → slice_get labels n ≡ Some label → node_at (nodes_from nexts labels firsts) n ≡ node_of nexts (slice_index firsts n) label
node_read nexts [] firsts n label same at = (cc)
node_read nexts (l ∷ labels) [] n label same at = absurd (omega (arith, same))
node_read nexts (l ∷ labels) (f ∷ firsts) zero label same at = let e : l ≡ label = cc in ap (node_of nexts f) e
node_read nexts (l ∷ labels) (f ∷ firsts) (suc n) label same at = node_read nexts labels firsts n label (omega (arith, same)) at

pub rows_long : (rows : List Label) (fields : List Value) (parents numbers firsts nexts : List ℕ) (nodes : List Node)
    → IsLinkedTree rows fields parents numbers firsts nexts → nodes_from nexts (map (label_of fields) rows) firsts ≡ nodes
    → length nodes ≡ length rows
rows_long rows fields parents numbers firsts nexts nodes whole view =
    sym (ap (λ x. length x) view) ∙ length-nodes nexts (map (label_of fields) rows) firsts whole.linked.as_many_firsts ∙ length-map rows (label_of fields)

-- a label that was read is that of the node
pub row_read : (rows : List Label) (fields : List Value) (parents numbers firsts nexts : List ℕ) (nodes : List Node) (seen : List Label) (n : ℕ) (row : Label)
    → IsLinkedTree rows fields parents numbers firsts nexts → nodes_from nexts (map (label_of fields) rows) firsts ≡ nodes
    → seen ≡ rows → slice_get seen n ≡ Some row → node_at nodes n ≡ node_of nexts (slice_index firsts n) (label_of fields row)
row_read rows fields parents numbers firsts nexts nodes seen n row whole view same at =
    ap (λ ns. node_at ns n) (sym view)
    ∙ node_read nexts (map (label_of fields) rows) firsts n (label_of fields row) whole.linked.as_many_firsts
    (slice_get-map (label_of fields) rows n ∙ ap (option_map (label_of fields)) (ap (λ r. slice_get r n) (sym same) ∙ at))

-- an element of a part of a list
pub get-taken : {A : Type 0} (xs : List A) (c i : ℕ) → i < length (take c xs) → (slice_get (take c xs) i ≡ slice_get xs i) × (i < c)
get-taken [] zero i within = absurd (omega (arith, within))
get-taken [] (suc c) i within = absurd (omega (arith, within))
get-taken (x ∷ xs) zero i within = absurd (omega (arith, within))
get-taken (x ∷ xs) (suc c) zero within = (refl, omega arith)
get-taken (x ∷ xs) (suc c) (suc i) within = let more = get-taken xs c i (omega (arith, within)) in (more.0, let low = more.1 in omega (arith, low))

pub get-dropped : {A : Type 0} (xs : List A) (s i j : ℕ) → j ≡ s + i → slice_get (drop s xs) i ≡ slice_get xs j
get-dropped [] zero i j e = let same : j ≡ i = omega (arith, e) in ap (λ k. slice_get [] k) (sym same)
get-dropped [] (suc s) i j e = none_there i j
  where
    none_there : {A : Type 0} (i j : ℕ) → slice_get {X = A} [] i ≡ slice_get [] j
    none_there i j = refl
get-dropped (x ∷ xs) zero i j e = let same : j ≡ i = omega (arith, e) in ap (λ k. slice_get (x ∷ xs) k) (sym same)
get-dropped (x ∷ xs) (suc s) i zero e = absurd (omega (arith, e))
get-dropped (x ∷ xs) (suc s) i (suc j) e = get-dropped xs s i j (omega (arith, e))

-- the label of a node that was added, with its fields behind all others
abbrev pub labelled : ℕ → List Value → Labelled
labelled ty fields = record { ty = ty; fields = fields }

dropped_long : (xs : List Value) (s c : ℕ) → s + c ≤ length xs → c ≤ length (drop s xs)
dropped_long [] zero c le = omega (arith, le)
dropped_long [] (suc s) c le = omega (arith, le)
dropped_long (x ∷ xs) zero c le = omega (arith, le)
dropped_long (x ∷ xs) (suc s) c le = dropped_long xs s c (omega (arith, le))

-- the fields of an old node stay
label_kept : (fields new : List Value) (label : Label) → label.start + label.count ≤ length fields → label_of (fields ++ new) label ≡ label_of fields label
label_kept fields new label there =
    ap (labelled label.ty)
    (ap (take label.count) (drop-append-le label.start fields new (omega (arith, there)))
    ∙ take-append-le label.count (drop label.start fields) new (dropped_long fields label.start label.count there))

labels_kept : (rows : List Label) (fields new : List Value) → ((k : ℕ) (label : Label) → slice_get rows k ≡ Some label → label.start + label.count ≤ length fields)
    → map (label_of (fields ++ new)) rows ≡ map (label_of fields) rows
labels_kept [] fields new there = refl
labels_kept (row ∷ rows) fields new there =
    rw (label_kept fields new row (there 0 row refl), labels_kept rows fields new (λ k label at. there (suc k) label at)) refl

map-append : {A B : Type 0} (f : A → B) (xs ys : List A) → map f (xs ++ ys) ≡ map f xs ++ map f ys
map-append f [] ys = refl
map-append f (x ∷ xs) ys = ap (λ zs. f x ∷ zs) (map-append f xs ys)

label_new : (fields new : List Value) (row : Label) → row.start ≡ length fields → row.count ≡ length new → label_of (fields ++ new) row ≡ labelled row.ty new
label_new fields new row start count =
    ap (labelled row.ty) (ap (λ s. take row.count (drop s (fields ++ new))) start ∙ ap (take row.count) (drop-append_seam fields new) ∙ take_all row.count new (omega (arith, count)))

pub relabelled : (rows rows3 : List Label) (fields fields3 new : List Value) (row : Label)
    → ((k : ℕ) (label : Label) → slice_get rows k ≡ Some label → label.start + label.count ≤ length fields)
    → rows3 ≡ rows ++ row ∷ [] → fields3 ≡ fields ++ new → row.start ≡ length fields → row.count ≡ length new
    → map (label_of fields3) rows3 ≡ map (label_of fields) rows ++ labelled row.ty new ∷ []
relabelled rows rows3 fields fields3 new row there rows_is fields_is start count =
    ap (λ f. map (label_of f) rows3) fields_is ∙ ap (map (label_of (fields ++ new))) rows_is ∙ map-append (label_of (fields ++ new)) rows (row ∷ [])
    ∙ ap (λ x. x ++ label_of (fields ++ new) row ∷ []) (labels_kept rows fields new there)
    ∙ ap (λ x. map (label_of fields) rows ++ x ∷ []) (label_new fields new row start count)

pushed : (rows : List Label) (row : Label) (k : ℕ) (label : Label) → slice_get (rows ++ row ∷ []) k ≡ Some label → (slice_get rows k ≡ Some label) ⊎ (row ≡ label)
pushed [] row zero label at = inr (cc)
pushed [] row (suc k) label at = (cc)
pushed (r ∷ rows) row zero label at = inl at
pushed (r ∷ rows) row (suc k) label at = pushed rows row k label at

-- the fields of each node are there again
pub fields_there : (rows rows3 : List Label) (fields fields3 new : List Value) (row : Label)
    → ((k : ℕ) (label : Label) → slice_get rows k ≡ Some label → label.start + label.count ≤ length fields)
    → rows3 ≡ rows ++ row ∷ [] → fields3 ≡ fields ++ new → row.start ≡ length fields → row.count ≡ length new
    → (k : ℕ) (label : Label) → slice_get rows3 k ≡ Some label → label.start + label.count ≤ length fields3
fields_there rows rows3 fields fields3 new row there rows_is fields_is start count k label at =
    let long = ap (λ x. length x) fields_is ∙ length-append fields new in
    elim (pushed rows row k label (ap (λ r. slice_get r k) (sym rows_is) ∙ at)) [
      | inl old ↦ (let low = there k label old in omega (arith, low, long))
      | inr e ↦ (let s = ap (λ r. r.start) e in let c = ap (λ r. r.count) e in omega (arith, s, c, start, count, long))
    ]
