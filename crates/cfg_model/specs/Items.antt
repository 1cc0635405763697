-- Items without lookaheads.
use Rattle.std.specs.Prelude.{ℕ, zero, suc, List, [], ◌∷◌, Option, Some, None, slice_get}
use Rattle.cfg_model.specs.declared.symbol.Sym.{Sym}
use Rattle.cfg_model.specs.declared.symbol.Sym.TheVariants.{N}
use Rattle.cfg_model.specs.Cfg.{Cfg, Rule, IsRule}

-- a rule's right side; rule 0 has the start symbol alone
abbrev pub right_or : Option Rule → List Sym
right_or None = []
right_or (Some one) = one.right

-- the right side of a rule; rule 0 derives the start symbol, rules of the grammar count from 1
abbrev pub right_of : Cfg → ℕ → List Sym
right_of g zero = N g.start ∷ []
right_of g (suc i) = right_or (slice_get g.rules i)

-- the item stands in the prefix's set, by the three rules of valid items without their lookaheads;
-- where every nonterminal derives a word that set is the prefix's core
pub data Item (g : Cfg) : List Sym → ℕ → ℕ → List Sym → Type 0 where
  start : Item g [] 0 0 (N g.start ∷ [])
  closure : (p : List Sym) (r d n : ℕ) (y : List Sym) (s : ℕ) (z : List Sym)
      → Item g p r d (N n ∷ y) → IsRule g s n z → Item g p s 0 z
  move : (p : List Sym) (r d : ℕ) (x : Sym) (y : List Sym) → Item g p r d (x ∷ y) → Item g (x ∷ p) r (suc d) y
