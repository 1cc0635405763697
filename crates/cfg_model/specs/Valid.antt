-- Items that are valid with a lookahead for a prefix of symbols, after Knuth; cores; united lookaheads.
use Rattle.std.specs.Prelude.{◌≡◌, ℕ, suc, ◌↔◌, List, [], ◌∷◌}
use Rattle.cfg_model.specs.declared.symbol.Sym.{Sym}
use Rattle.cfg_model.specs.declared.symbol.Sym.TheVariants.{N}
use Rattle.cfg_model.specs.Cfg.{Cfg, IsRule}
use Rattle.cfg_model.specs.Steps.{Steps, word}

-- what a word begins with that the terminal a follows
abbrev pub first_of : List ℕ → ℕ → ℕ
first_of [] a = a
first_of (b ∷ w) a = b

-- b begins a word of `y a`
abbrev pub Begins : Cfg → List Sym → ℕ → ℕ → Type 0
Begins g y a b = (w : List ℕ) × Steps g y (word w) × (first_of w a ≡ b)

-- The item of rule r with its dot at place d, behind which the symbols `rest` stand, is valid with the
-- lookahead for the prefix. A prefix is written with its last symbol first. The arguments are the
-- prefix, r, d, the rest and the lookahead.
pub data Valid (g : Cfg) : List Sym → ℕ → ℕ → List Sym → ℕ → Type 0 where
  -- S' = . S is valid with END for the empty prefix
  start : Valid g [] 0 0 (N g.start ∷ []) g.terminals
  -- with A = x . B y and a also each B = . z, with each b that begins a word of `y a`
  closure : (p : List Sym) (r d n : ℕ) (y : List Sym) (a s b : ℕ) (z : List Sym)
      → Valid g p r d (N n ∷ y) a → IsRule g s n z → Begins g y a b → Valid g p s 0 z b
  -- where A = x . X y is valid with a for a prefix, A = x X . y is with a for the prefix and X
  move : (p : List Sym) (r d : ℕ) (x : Sym) (y : List Sym) (a : ℕ)
      → Valid g p r d (x ∷ y) a → Valid g (x ∷ p) r (suc d) y a

-- the item stands in the prefix's core, the set of its items without lookaheads
abbrev pub InCore : Cfg → List Sym → ℕ → ℕ → List Sym → Type 0
InCore g p r d y = (a : ℕ) × Valid g p r d y a

-- the prefixes have the same core
abbrev pub SameCore : Cfg → List Sym → List Sym → Type 0
SameCore g p q = (r d : ℕ) (y : List Sym) → InCore g p r d y ↔ InCore g q r d y

-- the prefix's core isn't empty
abbrev pub HasCore : Cfg → List Sym → Type 0
HasCore g p = (r : ℕ) × (d : ℕ) × (y : List Sym) × InCore g p r d y

-- the united lookaheads: the item is valid with a for some prefix that has the same core as p
abbrev pub Look : Cfg → List Sym → ℕ → ℕ → List Sym → ℕ → Type 0
Look g p r d y a = (q : List Sym) × SameCore g p q × Valid g q r d y a

-- the least relation with the three rules read on cores; a core is named by any prefix that has it
pub data Spreads (g : Cfg) : List Sym → ℕ → ℕ → List Sym → ℕ → Type 0 where
  -- in the core of the empty prefix
  start : (q : List Sym) → SameCore g [] q → Spreads g q 0 0 (N g.start ∷ []) g.terminals
  -- within a core
  closure : (p : List Sym) (r d n : ℕ) (y : List Sym) (a s b : ℕ) (z : List Sym)
      → Spreads g p r d (N n ∷ y) a → IsRule g s n z → Begins g y a b → Spreads g p s 0 z b
  -- from the core of p to that of p and x
  move : (p q : List Sym) (r d : ℕ) (x : Sym) (y : List Sym) (a : ℕ)
      → Spreads g p r d (x ∷ y) a → SameCore g (x ∷ p) q → Spreads g q r (suc d) y a
