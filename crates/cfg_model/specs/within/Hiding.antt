-- What is met behind something that isn't empty and vanishes.
use Rattle.std.specs.Prelude.{◌≡◌, ℕ, ◌<◌, ◌⊎◌, Bool, true, false, IsTrue, List, [], ◌∷◌, slice_get, Some}
use Rattle.ck_base.specs.BitSet.{BitSet, Has}
use Rattle.cfg_model.specs.declared.symbol.Sym.{Sym}
use Rattle.cfg_model.specs.declared.symbol.Sym.TheVariants.{T, N}
use Rattle.cfg_model.specs.Cfg.{Cfg, IsRule}
use Rattle.cfg_model.specs.Rows.{In, AreRows}
use Rattle.cfg_model.specs.Searches.{HiddenLeft}
use Rattle.cfg_model.specs.within.Closing.{Passes}

-- the symbol, where it is a nonterminal, is below the count
abbrev pub IsBelowIn : ℕ → Sym → Type 0
IsBelowIn count (T t) = Unit {0}
IsBelowIn count (N n) = n < count

-- the symbol is the nonterminal t, or t is met first from it by the rows
abbrev pub Meets : List BitSet → Sym → ℕ → Type 0
Meets met (T a) t = ⊥
Meets met (N n) t = (t ≡ n) ⊎ In met n t

-- t is met from a symbol of the list before which all vanishes; from the first one only where something
-- stands before the list
abbrev pub FrontMeets : BitSet → List BitSet → Bool → List Sym → ℕ → Type 0
FrontMeets null met behind [] t = ⊥
FrontMeets null met behind (s ∷ w) t =
    (IsTrue behind × Meets met s t) ⊎ (Passes false (Has null) s × FrontMeets null met true w t)

-- t is so met in a rule of the nonterminal n
abbrev pub IsHiddenIn : Cfg → BitSet → List BitSet → ℕ → ℕ → Type 0
IsHiddenIn g null met n t = (r : ℕ) × (w : List Sym) × IsRule g r n w × FrontMeets null met false w t

-- the same in a rule before the place
pub record IsHiddenBefore (g : Cfg) (null : BitSet) (met : List BitSet) (i n t : ℕ) : Type 0 where
  pub place : ℕ
  pub right : List Sym
  pub before : place < i
  pub read : slice_get g.rules place ≡ Some (record { left = n; right = right })
  pub meets : FrontMeets null met false right t

-- a nonterminal is in its own row exactly where it is hidden left recursive
pub record AreHidden (g : Cfg) (rows : List BitSet) : Type 0 where
  pub are : AreRows g.nonterminals g.nonterminals rows
  pub recursive : (n : ℕ) → In rows n n → HiddenLeft g n
  pub all : (n : ℕ) → HiddenLeft g n → In rows n n
