-- Forests, folds and orders, tried on a small tree where the nearest wrong readings differ.
use Rattle.std.proofs.Common.{◌≡◌, ℕ, List, [], ◌∷◌, ◌++◌, Bool, true, false, Some, None, refl, arith}
use Rattle.tree_store.specs.Forest.{Node, IsChild, Under, here, below}
use Rattle.tree_store.specs.Folds.{Folds, at_end, not_entered, stops_within, goes_on}
use Rattle.tree_store.specs.Orders.{Preorder, no_tree, node_first, Postorder, no_tree_left, node_last, IsNext, is_last, is_before}

-- node 4 has the children 2 and 3, and 2 has the children 0 and 1: children come before their parents
abbrev pub nodes : List Node
nodes =
    record { ty = 0; children = []; fields = [] }
    ∷ record { ty = 1; children = []; fields = [] }
    ∷ record { ty = 2; children = 0 ∷ 1 ∷ []; fields = [] }
    ∷ record { ty = 3; children = []; fields = [] }
    ∷ record { ty = 4; children = 2 ∷ 3 ∷ []; fields = [] }
    ∷ []

second_child : IsChild nodes 4 1 3
second_child = refl

under_the_root : Under nodes 4 1
under_the_root = below 2 1 1 (below 4 0 2 (here 4 refl) refl) refl

-- preorder: each node before its children, and these from left to right
preorder : Preorder nodes (4 ∷ []) (4 ∷ 2 ∷ 0 ∷ 1 ∷ 3 ∷ [])
preorder =
    node_first 4 [] (2 ∷ 0 ∷ 1 ∷ 3 ∷ []) []
    (node_first 2 (3 ∷ []) (0 ∷ 1 ∷ []) (3 ∷ [])
    (node_first 0 (1 ∷ []) [] (1 ∷ []) no_tree (node_first 1 [] [] [] no_tree no_tree))
    (node_first 3 [] [] [] no_tree no_tree))
    no_tree

-- postorder: each node after its children
postorder : Postorder nodes (4 ∷ []) (0 ∷ 1 ∷ 2 ∷ 3 ∷ 4 ∷ [])
postorder =
    node_last 4 [] (0 ∷ 1 ∷ 2 ∷ 3 ∷ []) []
    (node_last 2 (3 ∷ []) (0 ∷ 1 ∷ []) (3 ∷ [])
    (node_last 0 (1 ∷ []) [] (1 ∷ []) no_tree_left (node_last 1 [] [] [] no_tree_left no_tree_left))
    (node_last 3 [] [] [] no_tree_left no_tree_left))
    no_tree_left

-- behind the last node under 2 comes 2's sibling, and not its parent
after_the_subtree : IsNext (4 ∷ 2 ∷ 0 ∷ 1 ∷ 3 ∷ []) 1 (Some 3)
after_the_subtree = is_before (4 ∷ 2 ∷ 0 ∷ []) 3 [] refl

no_more : IsNext (4 ∷ 2 ∷ 0 ∷ 1 ∷ 3 ∷ []) 3 None
no_more = is_last (4 ∷ 2 ∷ 0 ∷ 1 ∷ []) refl

-- a visitor that keeps the nodes that it entered, and stops when it enters 1
abbrev pub enters : ℕ → List ℕ → Bool → List ℕ → Type 0
enters n s true t = (t ≡ s ++ n ∷ []) × (n ≡ 1 → ⊥)
enters n s false t = (t ≡ s ++ n ∷ []) × (n ≡ 1)

abbrev pub leaves : ℕ → List ℕ → Bool → List ℕ → Type 0
leaves n s true t = t ≡ s
leaves n s false t = ⊥

-- the walk stops with node 1 and not with the root, the change of the last call is kept, and 3 isn't visited
stops_at_one : Folds enters leaves nodes (4 ∷ []) [] (4 ∷ 2 ∷ 0 ∷ 1 ∷ []) (Some 1)
stops_at_one =
    stops_within 4 [] [] (4 ∷ []) (4 ∷ 2 ∷ 0 ∷ 1 ∷ []) 1 (refl, λ e. omega (arith, e))
    (stops_within 2 (3 ∷ []) (4 ∷ []) (4 ∷ 2 ∷ []) (4 ∷ 2 ∷ 0 ∷ 1 ∷ []) 1 (refl, λ e. omega (arith, e))
    (goes_on 0 (1 ∷ []) (4 ∷ 2 ∷ []) (4 ∷ 2 ∷ 0 ∷ []) (4 ∷ 2 ∷ 0 ∷ []) (4 ∷ 2 ∷ 0 ∷ []) (4 ∷ 2 ∷ 0 ∷ 1 ∷ []) (Some 1) (refl, λ e. omega (arith, e)) (at_end _) refl
    (not_entered 1 [] (4 ∷ 2 ∷ 0 ∷ []) (4 ∷ 2 ∷ 0 ∷ 1 ∷ []) (refl, refl))))
