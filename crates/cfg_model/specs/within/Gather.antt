-- Lists that gather what a loop meets, and what stands in a right side with a rest behind it.
use Rattle.std.specs.Prelude.{◌≡◌, ℕ, ◌⊎◌, ◌<◌, List, [], ◌∷◌, slice_get, Some}
use Rattle.cfg_model.specs.declared.symbol.Sym.{Sym}
use Rattle.cfg_model.specs.declared.symbol.Sym.TheVariants.{T, N}
use Rattle.cfg_model.specs.declared.rows.Edge.{Edge}
use Rattle.cfg_model.specs.Cfg.{Cfg, IsRule}
use Rattle.cfg_model.specs.within.Parts.{At}

-- the new list has the old one's elements and those of which P holds
pub record Gathers {A : Type 0} (old now : List A) (P : A → Type 0) : Type 0 where
  pub kept : (x : A) → At old x → At now x
  pub only : (x : A) → At now x → At old x ⊎ P x
  pub more : (x : A) → P x → At now x

-- the nonterminal stands in the list, and P holds of what stands behind it
abbrev pub Behind : (List Sym → Type 0) → List Sym → ℕ → Type 0
Behind P [] m = ⊥
Behind P (T a ∷ w) m = Behind P w m
Behind P (N n ∷ w) m = ((m ≡ n) × P w) ⊎ Behind P w m

-- the edge leads from the left side to a nonterminal of the right side
abbrev pub IsDown : ℕ → List Sym → Edge → Type 0
IsDown left right e = (e.from ≡ left) × Behind (λ _. Unit {0}) right e.to

-- the edge is of a rule before the place
pub record IsDownBefore (g : Cfg) (i : ℕ) (e : Edge) : Type 0 where
  pub place : ℕ
  pub right : List Sym
  pub before : place < i
  pub read : slice_get g.rules place ≡ Some (record { left = e.from; right = right })
  pub stands : Behind (λ _. Unit {0}) right e.to

-- the edges are those of all rules
pub record AreDown (g : Cfg) (edges : List Edge) : Type 0 where
  pub only : (e : Edge) → At edges e → (r : ℕ) × (w : List Sym) × IsRule g r e.from w × Behind (λ _. Unit {0}) w e.to
  pub all : (r a b : ℕ) (w : List Sym) → IsRule g r a w → Behind (λ _. Unit {0}) w b → At edges (record { from = a; to = b })
