-- What spreads over rows of sets along edges.
use Rattle.std.specs.Prelude.{◌≡◌, ℕ, ◌<◌, ◌≤◌, ◌⊎◌, Bool, false, IsTrue, ◌+◌, List, [], ◌∷◌, slice_get, Some}
use Rattle.ck_base.specs.BitSet.{BitSet, Has}
use Rattle.cfg_model.specs.within.Missing.{missing}
use Rattle.cfg_model.specs.declared.rows.Edge.{Edge}
use Rattle.cfg_model.specs.Rows.{In}

-- how many numbers the rows lack
abbrev pub room : List BitSet → ℕ
room [] = 0
room (set ∷ rows) = missing set + room rows

-- there is an edge from the first number to the second
abbrev pub IsEdge : List Edge → ℕ → ℕ → Type 0
IsEdge edges a b = (k : ℕ) × (slice_get edges k ≡ Some (record { from = a; to = b }))

-- the edges lead from the first number to the second, in any number of steps
pub data Leads (edges : List Edge) (m : ℕ) : ℕ → Type 0 where
  here : Leads edges m m
  on : (a b : ℕ) → Leads edges m a → IsEdge edges a b → Leads edges m b

-- the new rows have what the old ones have, along the edges, and no more
pub record AreSpread (edges : List Edge) (old new : List BitSet) : Type 0 where
  pub only : (n t : ℕ) → In new n t → (m : ℕ) × Leads edges m n × In old m t
  pub all : (m n t : ℕ) → Leads edges m n → In old m t → In new n t

-- the edge is between rows
abbrev pub IsInside : ℕ → Edge → Type 0
IsInside count edge = (edge.from < count) × (edge.to < count)

-- row `to` has got what row `from` has; whether it grew
pub record IsJoined (from to : ℕ) (old new : List BitSet) (grew : Bool) : Type 0 where
  pub only : (n t : ℕ) → In new n t → In old n t ⊎ ((n ≡ to) × In old from t)
  pub kept : (n t : ℕ) → In old n t → In new n t
  pub more : (t : ℕ) → In old from t → In new to t
  pub room_kept : room new ≤ room old
  pub grew_is : IsTrue grew → room new < room old
  pub same : grew ≡ false → (n t : ℕ) → In new n t → In old n t

-- each edge was followed once
pub record SpreadsOnce (edges : List Edge) (old new : List BitSet) (grew : Bool) : Type 0 where
  pub only : (n t : ℕ) → In new n t → (m : ℕ) × Leads edges m n × In old m t
  pub kept : (n t : ℕ) → In old n t → In new n t
  pub grew_is : IsTrue grew → room new < room old
  pub closed : grew ≡ false → (a b t : ℕ) → IsEdge edges a b → In new a t → In new b t

-- along each edge what is in the one row is in the other, where the set hasn't the first
abbrev pub IsMarked : List Edge → List BitSet → BitSet → Type 0
IsMarked edges rows set = (a b t : ℕ) → IsEdge edges a b → In rows a t → In rows b t ⊎ Has set a
