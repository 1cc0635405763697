-- The orders of the nodes of trees.
use Rattle.std.specs.Prelude.{◌≡◌, ℕ, List, [], ◌∷◌, ◌++◌, Option, Some, None}
use Rattle.tree_store.specs.Forest.{Node, children_at}

-- all nodes of these trees, one tree after the other, each node before its children
pub data Preorder (nodes : List Node) : List ℕ → List ℕ → Type 0 where
  no_tree : Preorder nodes [] []
  node_first : (n : ℕ) (ns under rest : List ℕ) → Preorder nodes (children_at nodes n) under → Preorder nodes ns rest
      → Preorder nodes (n ∷ ns) (n ∷ (under ++ rest))

-- all nodes of these trees, one tree after the other, each node after its children
pub data Postorder (nodes : List Node) : List ℕ → List ℕ → Type 0 where
  no_tree_left : Postorder nodes [] []
  node_last : (n : ℕ) (ns under rest : List ℕ) → Postorder nodes (children_at nodes n) under → Postorder nodes ns rest
      → Postorder nodes (n ∷ ns) (under ++ (n ∷ rest))

-- m stands directly behind n in the order; None where n is its last node
pub data IsNext (order : List ℕ) (n : ℕ) : Option ℕ → Type 0 where
  is_last : (front : List ℕ) → order ≡ front ++ (n ∷ []) → IsNext order n None
  is_before : (front : List ℕ) (m : ℕ) (rest : List ℕ) → order ≡ front ++ (n ∷ m ∷ rest) → IsNext order n (Some m)
