-- What a grammar is refused for, by derivations, and what a search for the least answers.
use Rattle.std.specs.Prelude.{◌≢◌, ℕ, ◌<◌, ◌≤◌, List, [], ◌∷◌, ◌++◌, Option, MatchOption}
use Rattle.ck_base.specs.Found.{HasNo}
use Rattle.cfg_model.specs.declared.symbol.Sym.{Sym}
use Rattle.cfg_model.specs.declared.symbol.Sym.TheVariants.{N}
use Rattle.cfg_model.specs.Cfg.{Cfg}
use Rattle.cfg_model.specs.Steps.{StepsOnce}
use Rattle.cfg_model.specs.Sets.{Nullable, Productive, AllProductive}

-- the nonterminal derives itself in one or more steps
abbrev pub Cyclic : Cfg → ℕ → Type 0
Cyclic g n = StepsOnce g (N n ∷ []) (N n ∷ [])

-- in one or more steps it derives a list in which it stands behind a list that isn't empty and can
-- vanish
abbrev pub HiddenLeft : Cfg → ℕ → Type 0
HiddenLeft g n = (x : List Sym) × (y : List Sym) × (x ≢ []) × Nullable g x
    × StepsOnce g (N n ∷ []) (x ++ (N n ∷ y))

-- in one or more steps it derives a list in which nothing stands before it, or what can vanish
abbrev pub LeftRecursive : Cfg → ℕ → Type 0
LeftRecursive g n = (x : List Sym) × (y : List Sym) × Nullable g x
    × StepsOnce g (N n ∷ []) (x ++ (N n ∷ y))

-- the answer of a search is the least number of which P holds, and None where there is none
abbrev pub IsLeast : (ℕ → Type 0) → Option ℕ → Type 0
IsLeast P found = MatchOption found (HasNo P) (λ n. P n × ((m : ℕ) → P m → n ≤ m))

-- the answer is the least nonterminal that derives no word, and None where each derives one
abbrev pub IsUnproductive : Cfg → Option ℕ → Type 0
IsUnproductive g found = MatchOption found (AllProductive g)
    (λ n. (n < g.nonterminals) × (Productive g n → ⊥) × ((m : ℕ) → m < n → Productive g m))
