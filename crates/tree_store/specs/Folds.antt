-- The fold over a tree.
use Rattle.std.specs.Prelude.{ℕ, List, [], ◌∷◌, Bool, true, false, Option, Some, None}
use Rattle.tree_store.specs.Forest.{Node, children_at}

-- from a state to a state, over nodes one after the other: enter, the children in order, leave; at the
-- first call that answers false it stops with that node
pub data Folds {S : Type 0} (enters leaves : ℕ → S → Bool → S → Type 0) (nodes : List Node) : List ℕ → S → S → Option ℕ → Type 0 where
  at_end : (s : S) → Folds enters leaves nodes [] s s None
  not_entered : (n : ℕ) (ns : List ℕ) (s t : S) → enters n s false t → Folds enters leaves nodes (n ∷ ns) s t (Some n)
  stops_within : (n : ℕ) (ns : List ℕ) (s t u : S) (at : ℕ) → enters n s true t
      → Folds enters leaves nodes (children_at nodes n) t u (Some at) → Folds enters leaves nodes (n ∷ ns) s u (Some at)
  not_left : (n : ℕ) (ns : List ℕ) (s t u v : S) → enters n s true t
      → Folds enters leaves nodes (children_at nodes n) t u None → leaves n u false v
      → Folds enters leaves nodes (n ∷ ns) s v (Some n)
  goes_on : (n : ℕ) (ns : List ℕ) (s t u v w : S) (end : Option ℕ) → enters n s true t
      → Folds enters leaves nodes (children_at nodes n) t u None → leaves n u true v
      → Folds enters leaves nodes ns v w end → Folds enters leaves nodes (n ∷ ns) s w end
