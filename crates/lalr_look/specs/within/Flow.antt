-- Numbers that flow along edges.
use Rattle.std.specs.Prelude.{◌≡◌, ℕ, ◌⊎◌, List, [], length, Contains, slice_index_or, slice_set, Bool, true, false, IsTrue, ◌++◌, ◌∷◌, ◌↔◌}
use Rattle.lalr_look.specs.within.Rows.{row_at}
use Rattle.ck_base.specs.BitSet.{BitSet, Has, Adds, Grew}

-- the set of no numbers, of size 0
abbrev pub no_set : BitSet
no_set = record { size = 0; words = [] }

-- the set of a node
abbrev pub set_at : List BitSet → ℕ → BitSet
set_at sets n = slice_index_or sets n no_set

-- an edge leads from the first node to the second
abbrev pub Edge : List (List ℕ) → ℕ → ℕ → Type 0
Edge edges n m = Contains (row_at edges n) m

-- what comes to a node: its own numbers, and what comes to a node from which an edge leads there
pub data Flows (edges : List (List ℕ)) (sets : List BitSet) : ℕ → ℕ → Type 0 where
  own : (n a : ℕ) → Has (set_at sets n) a → Flows edges sets n a
  along : (n m a : ℕ) → Flows edges sets n a → Edge edges n m → Flows edges sets m a

-- the sets after the one at `from` was joined to the one at `to`, and whether that one grew
pub record JoinedAt (old new : List BitSet) (from to : ℕ) (grew : Bool) : Type 0 where
  pub joined : BitSet
  pub set : new ≡ slice_set old to joined
  pub adds : Adds (set_at old to) joined (Has (set_at old from))
  pub more : IsTrue grew ↔ Grew (set_at old to) joined

-- what was sent from n to m: the sets after it, and the work
pub data Sent (old new : List BitSet) (before after : List ℕ) (n m : ℕ) : Type 0 where
  same : new ≡ old → after ≡ before → ((a : ℕ) → Has (set_at old n) a → Has (set_at old m) a) → Sent old new before after n m
  joined : JoinedAt old new n m false → after ≡ before → Sent old new before after n m
  grew : JoinedAt old new n m true → after ≡ before ++ (m ∷ []) → Sent old new before after n m

-- an edge more
pub record EdgeAdded (old new : List (List ℕ)) (from to : ℕ) : Type 0 where
  pub size : length new ≡ length old
  pub only : (k n : ℕ) → Edge new k n → Edge old k n ⊎ ((k ≡ from) × (n ≡ to))
  pub kept : (k n : ℕ) → Edge old k n → Edge new k n
  pub more : Edge new from to
