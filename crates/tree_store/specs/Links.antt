-- How links keep a forest. Only the view of `Tree` and its invariant cite it.
use Rattle.std.specs.Prelude.{◌≡◌, ◌≢◌, ℕ, ◌+◌, ◌*◌, ◌<◌, ◌≤◌, List, [], ◌∷◌, length, take, drop, map, Some, slice_get, slice_index, nat_lt, if◌then◌else◌, zero, suc}
use Rattle.value_store.specs.declared.value.Value.{Value}
use Rattle.tree_store.specs.declared.tree.Label.{Label}
use Rattle.tree_store.specs.Forest.{Node, IsChild}

-- a node but for its links
pub record Labelled : Type 0 where
  pub ty : ℕ
  pub fields : List Value

-- the type and fields of a stored node
abbrev pub label_of : List Value → Label → Labelled
label_of fields label = record { ty = label.ty; fields = take label.count (drop label.start fields) }

-- the numbers from a first link on, at most so many
abbrev pub chain : List ℕ → ℕ → ℕ → List ℕ
chain nexts zero n = []
chain nexts (suc more) n = if nat_lt n (length nexts) then n ∷ chain nexts more (slice_index nexts n) else []

-- the numbers from a first link on, up to the end
pub data Chain (nexts : List ℕ) : ℕ → List ℕ → Type 0 where
  ends : (n : ℕ) → n ≡ 4294967295 → Chain nexts n []
  links : (n : ℕ) (ns : List ℕ) → n < length nexts → Chain nexts (slice_index nexts n) ns → Chain nexts n (n ∷ ns)

-- the nodes that the labels and links are
abbrev pub nodes_from : List ℕ → List Labelled → List ℕ → List Node
nodes_from nexts [] firsts = []
nodes_from nexts (label ∷ labels) [] = []
nodes_from nexts (label ∷ labels) (first ∷ firsts) =
    record { ty = label.ty; children = chain nexts 8 first; fields = label.fields } ∷ nodes_from nexts labels firsts

-- the links agree in both directions
pub record Linked (labels : List Labelled) (parents numbers firsts nexts : List ℕ) : Type 0 where
  pub as_many_parents : length parents ≡ length labels
  pub as_many_numbers : length numbers ≡ length labels
  pub as_many_firsts : length firsts ≡ length labels
  pub as_many_nexts : length nexts ≡ length labels
  pub few : length labels ≤ 1048576
  pub down : (n : ℕ) → n < length labels → Chain nexts (slice_index firsts n) (chain nexts 8 (slice_index firsts n))
  pub up : (p i c : ℕ) → IsChild (nodes_from nexts labels firsts) p i c → (slice_index parents c ≡ p) × (slice_index numbers c ≡ i) × (c < p)
  pub back : (c : ℕ) → c < length labels → slice_index parents c ≢ 4294967295
      → IsChild (nodes_from nexts labels firsts) (slice_index parents c) (slice_index numbers c) c

-- the links agree, and the fields of each node are there
pub record IsLinkedTree (labels : List Label) (fields : List Value) (parents numbers firsts nexts : List ℕ) : Type 0 where
  pub linked : Linked (map (label_of fields) labels) parents numbers firsts nexts
  pub fields_there : (k : ℕ) (label : Label) → slice_get labels k ≡ Some label → label.start + label.count ≤ length fields
  pub few_fields : length fields ≤ 8 * length labels
