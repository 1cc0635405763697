-- What can stand first in a right side, and what a list begins with, by sets that are there.
use Rattle.std.specs.Prelude.{◌≡◌, ℕ, false, ◌⊎◌, List, [], ◌∷◌, ◌++◌, slice_get, Some, All, ◌<◌}
use Rattle.ck_base.specs.BitSet.{BitSet, Has}
use Rattle.cfg_model.specs.declared.symbol.Sym.{Sym}
use Rattle.cfg_model.specs.declared.symbol.Sym.TheVariants.{T, N}
use Rattle.cfg_model.specs.Cfg.{Cfg, Rule, IsRule}
use Rattle.cfg_model.specs.declared.parts.Part.{Part}
use Rattle.cfg_model.specs.within.Closing.{AllPass}
use Rattle.cfg_model.specs.Rows.{In, AreRows}
use Rattle.cfg_model.specs.within.Spreading.{IsInside, IsEdge}
use Rattle.cfg_model.specs.declared.rows.Edge.{Edge}

-- a rule of the nonterminal has the symbol behind nonterminals of the set alone
pub record LeftPart (g : Cfg) (null : BitSet) (n : ℕ) (s : Sym) : Type 0 where
  pub number : ℕ
  pub before : List Sym
  pub after : List Sym
  pub is_rule : IsRule g number n (before ++ (s ∷ after))
  pub vanish : AllPass false (Has null) before

-- the list begins with the terminal, or with a nonterminal in whose row it is; what vanishes is left out
abbrev pub Begins : List BitSet → BitSet → List Sym → ℕ → Type 0
Begins rows null [] t = ⊥
Begins rows null (T a ∷ u) t = t ≡ a
Begins rows null (N n ∷ u) t = In rows n t ⊎ (Has null n × Begins rows null u t)

-- the element stands in the list
abbrev pub At : {A : Type 0} → List A → A → Type 0
At xs x = (k : ℕ) × (slice_get xs k ≡ Some x)

-- the symbol stands in the list behind nonterminals of the set alone
pub record IsFront (null : BitSet) (w : List Sym) (s : Sym) : Type 0 where
  pub before : List Sym
  pub after : List Sym
  pub whole : w ≡ before ++ (s ∷ after)
  pub vanish : AllPass false (Has null) before

-- the new list has the old one's parts and those of the rule
pub record AddsParts (null : BitSet) (one : Rule) (old new : List Part) : Type 0 where
  pub kept : (p : Part) → At old p → At new p
  pub only : (p : Part) → At new p → At old p ⊎ ((p.left ≡ one.left) × IsFront null one.right p.symbol)
  pub more : (s : Sym) → IsFront null one.right s → At new (record { left = one.left; symbol = s })

-- the parts are those that can stand first
pub record AreLeftParts (g : Cfg) (null : BitSet) (parts : List Part) : Type 0 where
  pub only : (p : Part) → At parts p → LeftPart g null p.left p.symbol
  pub all : (n : ℕ) (s : Sym) → LeftPart g null n s → At parts (record { left = n; symbol = s })

-- the symbol is of these numbers
abbrev pub IsBelow : ℕ → ℕ → Sym → Type 0
IsBelow count width (T t) = t < width
IsBelow count width (N n) = n < count

-- the part is of these numbers
abbrev pub IsPart : ℕ → ℕ → Part → Type 0
IsPart count width part = (part.left < count) × IsBelow count width part.symbol

-- each part is
abbrev pub AreInRange : ℕ → ℕ → List Part → Type 0
AreInRange count width parts = (p : Part) → At parts p → IsPart count width p

-- the number t was added to row n
pub record IsAddedAt (old : List BitSet) (n t : ℕ) (new : List BitSet) : Type 0 where
  pub only : (m u : ℕ) → In new m u → In old m u ⊎ ((m ≡ n) × (u ≡ t))
  pub kept : (m u : ℕ) → In old m u → In new m u
  pub more : In new n t

-- the rows have the terminals of the parts
pub record AreFirstBase (count width : ℕ) (parts : List Part) (base : List BitSet) : Type 0 where
  pub rows : AreRows count width base
  pub only : (n t : ℕ) → In base n t → At parts (record { left = n; symbol = T t })
  pub all : (n t : ℕ) → At parts (record { left = n; symbol = T t }) → In base n t

-- the edges lead from the nonterminals of the parts to their left sides
pub record AreFirstEdges (count : ℕ) (parts : List Part) (edges : List Edge) : Type 0 where
  pub inside : All (IsInside count) edges
  pub only : (a b : ℕ) → IsEdge edges a b → At parts (record { left = b; symbol = N a })
  pub all : (a b : ℕ) → At parts (record { left = b; symbol = N a }) → IsEdge edges a b
