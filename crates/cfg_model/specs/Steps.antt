-- Derive steps between lists of symbols.
use Rattle.std.specs.Prelude.{ℕ, List, [], ◌∷◌, ◌++◌}
use Rattle.cfg_model.specs.declared.symbol.Sym.{Sym}
use Rattle.cfg_model.specs.declared.symbol.Sym.TheVariants.{T, N}
use Rattle.cfg_model.specs.Cfg.{Cfg, IsRule}

-- one derive step: one nonterminal is replaced by the right side of one of its rules
pub data Step (g : Cfg) : List Sym → List Sym → Type 0 where
  step : (r n : ℕ) (w x y : List Sym) → IsRule g r n w → Step g (x ++ (N n ∷ y)) (x ++ (w ++ y))

-- zero or more steps from u
pub data Steps (g : Cfg) (u : List Sym) : List Sym → Type 0 where
  none : Steps g u u
  more : (v w : List Sym) → Steps g u v → Step g v w → Steps g u w

-- one or more steps
abbrev pub StepsOnce : Cfg → List Sym → List Sym → Type 0
StepsOnce g u w = (v : List Sym) × Steps g u v × Step g v w

-- these terminals as symbols
abbrev pub word : List ℕ → List Sym
word [] = []
word (t ∷ ts) = T t ∷ word ts
