-- The sets of a grammar, by derivations.
use Rattle.std.specs.Prelude.{ℕ, ◌<◌, List, [], ◌∷◌, ◌++◌}
use Rattle.cfg_model.specs.declared.symbol.Sym.{Sym}
use Rattle.cfg_model.specs.declared.symbol.Sym.TheVariants.{T, N}
use Rattle.cfg_model.specs.Cfg.{Cfg}
use Rattle.cfg_model.specs.Steps.{Steps, word}

-- the list derives the empty word
abbrev pub Nullable : Cfg → List Sym → Type 0
Nullable g u = Steps g u []

-- the nonterminal derives a word
abbrev pub Productive : Cfg → ℕ → Type 0
Productive g n = (w : List ℕ) × Steps g (N n ∷ []) (word w)

-- every nonterminal derives a word, reachable or not
abbrev pub AllProductive : Cfg → Type 0
AllProductive g = (n : ℕ) → n < g.nonterminals → Productive g n

-- the nonterminal stands in a list that the start symbol derives
abbrev pub Reachable : Cfg → ℕ → Type 0
Reachable g n = (x : List Sym) × (y : List Sym) × Steps g (N g.start ∷ []) (x ++ (N n ∷ y))

-- the list derives a word that begins with the terminal
abbrev pub First : Cfg → List Sym → ℕ → Type 0
First g u t = (w : List ℕ) × Steps g u (word (t ∷ w))

-- the terminal, or END, stands after the nonterminal in a list that the start symbol and END after it
-- derive
abbrev pub Follow : Cfg → ℕ → ℕ → Type 0
Follow g n t = (x : List Sym) × (y : List Sym)
    × Steps g (N g.start ∷ T g.terminals ∷ []) (x ++ (N n ∷ T t ∷ y))
