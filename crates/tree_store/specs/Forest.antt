-- A forest: nodes by number, each with its type, its children and its fields.
use Rattle.std.specs.Prelude.{◌≡◌, ℕ, ◌<◌, List, [], length, Option, Some, None, slice_get}
use Rattle.value_store.specs.declared.value.Value.{Value}

-- a node: its type, its children in order, and its fields in order
pub record Node : Type 0 where
  pub ty : ℕ
  pub children : List ℕ
  pub fields : List Value

-- the node that is there, else one of type 0 without children and fields
abbrev pub node_in : Option Node → Node
node_in None = record { ty = 0; children = []; fields = [] }
node_in (Some node) = node

-- the node with this number
abbrev pub node_at : List Node → ℕ → Node
node_at nodes n = node_in (slice_get nodes n)

-- the children of a node, in order
abbrev pub children_at : List Node → ℕ → List ℕ
children_at nodes n = (node_at nodes n).children

-- a node is the child so numbered of another
abbrev pub IsChild : List Node → ℕ → ℕ → ℕ → Type 0
IsChild nodes parent i child = slice_get (children_at nodes parent) i ≡ Some child

-- each node has one place at most, and children come before their parents
pub record IsForest (nodes : List Node) : Type 0 where
  pub before : (p i c : ℕ) → IsChild nodes p i c → c < p
  pub one_place : (p i q j c : ℕ) → IsChild nodes p i c → IsChild nodes q j c → (p ≡ q) × (i ≡ j)

-- the nodes are roots, no two of them the same
pub record AreRoots (nodes : List Node) (cs : List ℕ) : Type 0 where
  pub within : (k c : ℕ) → slice_get cs k ≡ Some c → c < length nodes
  pub no_child : (k c : ℕ) → slice_get cs k ≡ Some c → (p i : ℕ) → IsChild nodes p i c → ⊥
  pub differ : (j k c : ℕ) → slice_get cs j ≡ Some c → slice_get cs k ≡ Some c → j ≡ k

-- the node is there, and is no node's child
pub record IsRoot (nodes : List Node) (r : ℕ) : Type 0 where
  pub within : r < length nodes
  pub no_child : (p i : ℕ) → IsChild nodes p i r → ⊥

-- the node is the only one that is no node's child
pub record OnlyRoot (nodes : List Node) (r : ℕ) : Type 0 where
  pub root : IsRoot nodes r
  pub only : (n : ℕ) → IsRoot nodes n → n ≡ r

-- the node is the root, or lies under it
pub data Under (nodes : List Node) (root : ℕ) : ℕ → Type 0 where
  here : (n : ℕ) → n ≡ root → Under nodes root n
  below : (p i c : ℕ) → Under nodes root p → IsChild nodes p i c → Under nodes root c
