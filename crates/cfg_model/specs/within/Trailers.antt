-- What stands behind nonterminals in right sides, as first terminals, and where it vanishes.
use Rattle.std.specs.Prelude.{◌≡◌, ℕ, ◌⊎◌, ◌<◌, false, List, slice_get, Some}
use Rattle.ck_base.specs.BitSet.{BitSet, Has}
use Rattle.cfg_model.specs.declared.symbol.Sym.{Sym}
use Rattle.cfg_model.specs.declared.symbol.Sym.TheVariants.{T, N}
use Rattle.cfg_model.specs.declared.rows.Edge.{Edge}
use Rattle.cfg_model.specs.Cfg.{Cfg, IsRule}
use Rattle.cfg_model.specs.within.Closing.{AllPass}
use Rattle.cfg_model.specs.Rows.{In}
use Rattle.cfg_model.specs.within.Spreading.{IsEdge}
use Rattle.cfg_model.specs.within.Parts.{Begins}
use Rattle.cfg_model.specs.within.Gather.{Behind}

-- the new rows have what the old ones have, and t in row m where P m t
pub record JoinsRows (old new : List BitSet) (P : ℕ → ℕ → Type 0) : Type 0 where
  pub kept : (m t : ℕ) → In old m t → In new m t
  pub only : (m t : ℕ) → In new m t → In old m t ⊎ P m t
  pub more : (m t : ℕ) → P m t → In new m t

-- what a list begins with, by its first symbol and what the rest begins with
abbrev pub Fronted : List BitSet → BitSet → Sym → (ℕ → Type 0) → ℕ → Type 0
Fronted rows null (T a) P t = t ≡ a
Fronted rows null (N n) P t = In rows n t ⊎ (Has null n × P t)

-- what stands behind the nonterminal begins with the terminal
abbrev pub BeginsBehind : List BitSet → BitSet → List Sym → ℕ → ℕ → Type 0
BeginsBehind rows null w m t = Behind (λ y. Begins rows null y t) w m

-- what stands behind the nonterminal vanishes
abbrev pub VanishBehind : BitSet → ℕ → List Sym → Edge → Type 0
VanishBehind null left w e = (e.from ≡ left) × Behind (AllPass false (Has null)) w e.to

-- the nonterminal stands in a rule before the place, whose left side is in the set
pub record IsAhead (g : Cfg) (reach : BitSet) (P : List Sym → Type 0) (i a m : ℕ) : Type 0 where
  pub place : ℕ
  pub right : List Sym
  pub before : place < i
  pub read : slice_get g.rules place ≡ Some (record { left = a; right = right })
  pub reached : Has reach a
  pub stands : Behind P right m

-- the same in any rule
pub record StandsIn (g : Cfg) (reach : BitSet) (P : List Sym → Type 0) (a m : ℕ) : Type 0 where
  pub number : ℕ
  pub right : List Sym
  pub is_rule : IsRule g number a right
  pub reached : Has reach a
  pub stands : Behind P right m

-- the rows have got what stands behind, and the edges are where it vanishes
pub record AreBehind (g : Cfg) (firsts : List BitSet) (null reach : BitSet) (old new : List BitSet) (edges : List Edge) : Type 0 where
  pub rows : JoinsRows old new (λ m t. (a : ℕ) × StandsIn g reach (λ y. Begins firsts null y t) a m)
  pub only : (a b : ℕ) → IsEdge edges a b → StandsIn g reach (AllPass false (Has null)) a b
  pub all : (a b : ℕ) → StandsIn g reach (AllPass false (Has null)) a b → IsEdge edges a b
