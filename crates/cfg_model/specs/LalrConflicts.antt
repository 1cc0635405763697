-- LALR conflicts, and which one is reported.
use Rattle.std.specs.Prelude.{ℕ, ◌≤◌, ◌≢◌, List, [], ◌∷◌, Option, Some, None, ⊤}
use Rattle.cfg_model.specs.declared.symbol.Sym.{Sym}
use Rattle.cfg_model.specs.declared.symbol.Sym.TheVariants.{T}
use Rattle.cfg_model.specs.Cfg.{Cfg}
use Rattle.cfg_model.specs.Valid.{InCore, Look}

-- in the core of the prefix the complete item of rule r has the terminal in its united lookaheads
abbrev pub Completes : Cfg → List Sym → ℕ → ℕ → Type 0
Completes g p r t = (d : ℕ) × Look g p r d [] t

-- an item of the prefix's core shifts the terminal
abbrev pub Shifts : Cfg → List Sym → ℕ → Type 0
Shifts g p t = (r : ℕ) × (d : ℕ) × (y : List Sym) × InCore g p r d (T t ∷ y)

-- a conflict on the terminal t: in some core, which any of its prefixes names, rule r is complete
-- beside a shift (None) or another rule
abbrev pub LalrConflict : Cfg → ℕ → ℕ → Option ℕ → Type 0
LalrConflict g t r None = (p : List Sym) × Completes g p r t × Shifts g p t
LalrConflict g t r (Some s) = (p : List Sym) × Completes g p r t × Completes g p s t × (r ≢ s)

-- the first stands before the second, or is the same: a shift (None) before each rule, rules by number
abbrev pub NotAfter : Option ℕ → Option ℕ → Type 0
NotAfter None o = ⊤
NotAfter (Some s) None = ⊥
NotAfter (Some s) (Some o) = s ≤ o

-- the conflict that is reported: the least terminal, then the least rule of a complete item, then a
-- shift before a rule, then the least other rule
pub record LalrReport (g : Cfg) (t r : ℕ) (other : Option ℕ) : Type 0 where
  pub conflict : LalrConflict g t r other
  pub terminal : (u s : ℕ) (o : Option ℕ) → LalrConflict g u s o → t ≤ u
  pub rule : (s : ℕ) (o : Option ℕ) → LalrConflict g t s o → r ≤ s
  pub least : (o : Option ℕ) → LalrConflict g t r o → NotAfter other o
