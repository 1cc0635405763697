-- The last node is a root, as children come before their parents.
use Rattle.std.proofs.Common.{◌≡◌, ℕ, ◌<◌, ◌+◌, List, [], ◌∷◌, length, sym, subst, arith, zero, suc}
use Rattle.tree_store.specs.Forest.{Node, IsForest, IsChild, IsRoot, OnlyRoot}

child_below : (nodes : List Node) (p i c : ℕ) → IsChild nodes p i c → p < length nodes
child_below [] p i c is = (cc)
child_below (n ∷ nodes) zero i c is = omega arith
child_below (n ∷ nodes) (suc p) i c is = let more = child_below nodes p i c is in omega (arith, more)

pub last_root : (nodes : List Node) (last : ℕ) → IsForest nodes → last + 1 ≡ length nodes → IsRoot nodes last
last_root nodes last forest is = record {
  within = omega (arith, is);
  no_child = λ p i child. (let low = forest.before p i last child in let within = child_below nodes p i last child in omega (arith, is, low, within));
}

pub only_last : (nodes : List Node) (last : ℕ) → IsForest nodes → last + 1 ≡ length nodes → (r : ℕ) × OnlyRoot nodes r → OnlyRoot nodes last
only_last nodes last forest is (r, only) = subst (OnlyRoot nodes) (sym (only.only last (last_root nodes last forest is))) only
