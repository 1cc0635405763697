-- Graphs that grow: edges between nodes, and numbers that nodes have.
use Rattle.std.specs.Prelude.{◌≡◌, ℕ, ◌<◌, ◌⊎◌, List, All, length, slice_get, Some}
use Rattle.ck_base.specs.BitSet.{BitSet, Has}
use Rattle.lalr_look.specs.declared.graph.Graph.{Graph}
use Rattle.lalr_look.specs.within.Flow.{Edge, set_at}
use Rattle.lalr_look.specs.within.Rows.{rows_of}

-- the new relation is the old one with P
pub record Gains (old new P : ℕ → ℕ → Type 0) : Type 0 where
  pub only : (k a : ℕ) → new k a → old k a ⊎ P k a
  pub kept : (k a : ℕ) → old k a → new k a
  pub more : (k a : ℕ) → P k a → new k a

-- the number is in the node's set
abbrev pub InSet : List BitSet → ℕ → ℕ → Type 0
InSet sets k a = Has (set_at sets k) a

-- the sets are as many and as wide as before, and have the numbers of Q besides
pub record SetsGrow (old new : List BitSet) (Q : ℕ → ℕ → Type 0) : Type 0 where
  pub count : length new ≡ length old
  pub sizes : (size : ℕ) → All (λ set. set.size ≡ size) old → All (λ set. set.size ≡ size) new
  pub gains : Gains (InSet old) (InSet new) Q

-- the edges are between as many nodes as before, and there are those of P besides
pub record EdgesGrow (old new : List (List ℕ)) (P : ℕ → ℕ → Type 0) : Type 0 where
  pub count : length new ≡ length old
  pub gains : Gains (Edge old) (Edge new) P

-- the graph has the edges of P and the numbers of Q besides
pub record Grows (old new : Graph) (P Q : ℕ → ℕ → Type 0) : Type 0 where
  pub edges : EdgesGrow (rows_of old.edges.items) (rows_of new.edges.items) P
  pub sets : SetsGrow old.sets.items new.sets.items Q

-- there are so many nodes, with room for the numbers below the size in their sets
pub record IsSized (nodes size : ℕ) (graph : Graph) : Type 0 where
  pub edges : length graph.edges.items ≡ nodes
  pub sets : length graph.sets.items ≡ nodes
  pub sizes : All (λ set. set.size ≡ size) graph.sets.items

-- P of one of the first values of a list
abbrev pub OfFirst : {X : Type 0} → (X → ℕ → ℕ → Type 0) → List X → ℕ → ℕ → ℕ → Type 0
OfFirst {X} P xs i k a = (j : ℕ) × (x : X) × (j < i) × (slice_get xs j ≡ Some x) × P x k a

-- P of one of the first numbers
abbrev pub OfBelow : (ℕ → ℕ → ℕ → Type 0) → ℕ → ℕ → ℕ → Type 0
OfBelow P i k a = (n : ℕ) × (n < i) × P n k a
