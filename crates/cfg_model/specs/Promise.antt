-- What the calls that find a grammar's sets give.
use Rattle.std.specs.Prelude.{◌+◌, List, [], ◌∷◌}
use Rattle.ck_base.specs.BitSet.{BitSet}
use Rattle.cfg_model.specs.declared.symbol.Sym.TheVariants.{N}
use Rattle.cfg_model.specs.Cfg.{Cfg}
use Rattle.cfg_model.specs.Rows.{IsSetOf, AreRowsOf}
use Rattle.cfg_model.specs.Sets.{Nullable, Productive, Reachable, First, Follow}

-- the set has the nonterminals that derive the empty word
abbrev pub AreNullable : Cfg → BitSet → Type 0
AreNullable g = IsSetOf g.nonterminals (λ n. Nullable g (N n ∷ []))

-- the set has the nonterminals that derive a word
abbrev pub AreProductive : Cfg → BitSet → Type 0
AreProductive g = IsSetOf g.nonterminals (Productive g)

-- the set has the nonterminals that can be reached
abbrev pub AreReachable : Cfg → BitSet → Type 0
AreReachable g = IsSetOf g.nonterminals (Reachable g)

-- the row of each nonterminal is its FIRST
abbrev pub AreFirsts : Cfg → List BitSet → Type 0
AreFirsts g = AreRowsOf g.nonterminals (g.terminals + 1) (λ n. First g (N n ∷ []))

-- the row of each nonterminal is its FOLLOW, END among it
abbrev pub AreFollows : Cfg → List BitSet → Type 0
AreFollows g = AreRowsOf g.nonterminals (g.terminals + 1) (Follow g)
