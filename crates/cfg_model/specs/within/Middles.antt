-- Nonterminals beside which all vanishes.
use Rattle.std.specs.Prelude.{◌≡◌, ℕ, ◌⊎◌, ◌+◌, ◌<◌, false, List, [], ◌∷◌, ◌++◌, slice_get, Some}
use Rattle.ck_base.specs.BitSet.{BitSet, Has}
use Rattle.cfg_model.specs.declared.symbol.Sym.{Sym}
use Rattle.cfg_model.specs.declared.symbol.Sym.TheVariants.{N}
use Rattle.cfg_model.specs.declared.rows.Edge.{Edge}
use Rattle.cfg_model.specs.Cfg.{Cfg, IsRule}
use Rattle.cfg_model.specs.within.Closing.{AllPass, Passes}
use Rattle.cfg_model.specs.within.Spreading.{IsEdge}

-- so many symbols of the list aren't nonterminals of the set
pub data Stops (null : BitSet) : List Sym → ℕ → Type 0 where
  none_stops : Stops null [] 0
  it_passes : (s : Sym) (w : List Sym) (k : ℕ) → Passes false (Has null) s → Stops null w k → Stops null (s ∷ w) k
  it_stops : (s : Sym) (w : List Sym) (k : ℕ) → (Passes false (Has null) s → ⊥) → Stops null w k → Stops null (s ∷ w) (k + 1)

-- none of k symbols stops, or this one alone does
abbrev pub IsAlone : BitSet → ℕ → Sym → Type 0
IsAlone null k s = (k ≡ 0) ⊎ ((k ≡ 1) × (Passes false (Has null) s → ⊥))

-- the nonterminal stands in the list among those of the set alone
pub record IsAmong (null : BitSet) (right : List Sym) (m : ℕ) : Type 0 where
  pub before : List Sym
  pub after : List Sym
  pub whole : right ≡ before ++ (N m ∷ after)
  pub vanish : AllPass false (Has null) before
  pub vanish_after : AllPass false (Has null) after

-- an edge from a left side to a nonterminal whose neighbours in the right side can all vanish
abbrev pub IsMiddle : BitSet → ℕ → List Sym → Edge → Type 0
IsMiddle null left right e = (e.from ≡ left) × IsAmong null right e.to

-- the same in a rule before the place
pub record IsMiddleBefore (g : Cfg) (null : BitSet) (i a b : ℕ) : Type 0 where
  pub place : ℕ
  pub right : List Sym
  pub before : place < i
  pub read : slice_get g.rules place ≡ Some (record { left = a; right = right })
  pub among : IsAmong null right b

-- the edges are those of all rules
pub record AreMiddle (g : Cfg) (null : BitSet) (edges : List Edge) : Type 0 where
  pub only : (a b : ℕ) → IsEdge edges a b → (r : ℕ) × (w : List Sym) × IsRule g r a w × IsAmong null w b
  pub all : (r a b : ℕ) (w : List Sym) → IsRule g r a w → IsAmong null w b → IsEdge edges a b
