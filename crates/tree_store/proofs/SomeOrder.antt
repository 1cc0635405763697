-- Each tree of a forest has one preorder and one postorder.
use Rattle.std.proofs.Common.{◌≡◌, ℕ, zero, suc, ◌<◌, List, [], ◌∷◌, ◌++◌, Some, refl, arith}
use Rattle.std.specs.Prelude.{slice_get}
use Rattle.tree_store.specs.Forest.{Node, children_at, IsForest}
use Rattle.tree_store.specs.Orders.{Preorder, no_tree, node_first, Postorder, no_tree_left, node_last}

-- each of the nodes has a number below this one
abbrev pub AreBelow : ℕ → List ℕ → Type 0
AreBelow n cs = (k c : ℕ) → slice_get cs k ≡ Some c → c < n

-- where the children of each node have one, trees in a row have one
preorder_row : (nodes : List Node) (n : ℕ) → ((c : ℕ) → c < n → (order : List ℕ) × Preorder nodes (children_at nodes c) order)
    → (cs : List ℕ) → AreBelow n cs → (order : List ℕ) × Preorder nodes cs order
preorder_row nodes n under [] all = ([], no_tree)
preorder_row nodes n under (c ∷ cs) all =
    let its = under c (all 0 c refl) in
    let rest = preorder_row nodes n under cs (λ k d at. all (suc k) d at) in
    (c ∷ (its.0 ++ rest.0), node_first c cs its.0 rest.0 its.1 rest.1)

preorder_under : (nodes : List Node) → IsForest nodes → (n c : ℕ) → c < n → (order : List ℕ) × Preorder nodes (children_at nodes c) order
preorder_under nodes is zero c low = absurd (omega (arith, low))
preorder_under nodes is (suc n) c low =
    preorder_row nodes n (preorder_under nodes is n) (children_at nodes c) (λ k d at. omega (arith, is.before c k d at, low))

pub some_preorder : (nodes : List Node) (root : ℕ) → IsForest nodes → (order : List ℕ) × Preorder nodes (root ∷ []) order
some_preorder nodes root is =
    let its = preorder_under nodes is (suc root) root (omega arith) in
    (root ∷ (its.0 ++ []), node_first root [] its.0 [] its.1 no_tree)

postorder_row : (nodes : List Node) (n : ℕ) → ((c : ℕ) → c < n → (order : List ℕ) × Postorder nodes (children_at nodes c) order)
    → (cs : List ℕ) → AreBelow n cs → (order : List ℕ) × Postorder nodes cs order
postorder_row nodes n under [] all = ([], no_tree_left)
postorder_row nodes n under (c ∷ cs) all =
    let its = under c (all 0 c refl) in
    let rest = postorder_row nodes n under cs (λ k d at. all (suc k) d at) in
    (its.0 ++ (c ∷ rest.0), node_last c cs its.0 rest.0 its.1 rest.1)

postorder_under : (nodes : List Node) → IsForest nodes → (n c : ℕ) → c < n → (order : List ℕ) × Postorder nodes (children_at nodes c) order
postorder_under nodes is zero c low = absurd (omega (arith, low))
postorder_under nodes is (suc n) c low =
    postorder_row nodes n (postorder_under nodes is n) (children_at nodes c) (λ k d at. omega (arith, is.before c k d at, low))

pub some_postorder : (nodes : List Node) (root : ℕ) → IsForest nodes → (order : List ℕ) × Postorder nodes (root ∷ []) order
some_postorder nodes root is =
    let its = postorder_under nodes is (suc root) root (omega arith) in
    (its.0 ++ (root ∷ []), node_last root [] its.0 [] its.1 no_tree_left)

pub one_preorder : (nodes : List Node) (ns a b : List ℕ) → Preorder nodes ns a → Preorder nodes ns b → a ≡ b
one_preorder nodes _ _ _ no_tree no_tree = refl
one_preorder nodes _ _ _ (node_first n ns under rest p q) (node_first _ _ under2 rest2 p2 q2) =
    rw (one_preorder nodes (children_at nodes n) under under2 p p2, one_preorder nodes ns rest rest2 q q2) refl

pub one_postorder : (nodes : List Node) (ns a b : List ℕ) → Postorder nodes ns a → Postorder nodes ns b → a ≡ b
one_postorder nodes _ _ _ no_tree_left no_tree_left = refl
one_postorder nodes _ _ _ (node_last n ns under rest p q) (node_last _ _ under2 rest2 p2 q2) =
    rw (one_postorder nodes (children_at nodes n) under under2 p p2, one_postorder nodes ns rest rest2 q q2) refl
