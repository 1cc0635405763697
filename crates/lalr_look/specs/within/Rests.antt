-- What is known of the symbols behind a dot.
use Rattle.std.specs.Prelude.{ℕ, ◌+◌, List, [], ◌∷◌, drop}
use Rattle.cfg_model.specs.declared.symbol.Sym.{Sym}
use Rattle.cfg_model.specs.declared.symbol.Sym.TheVariants.{N}
use Rattle.cfg_model.specs.Cfg.{Cfg}
use Rattle.cfg_model.specs.Sets.{First, Nullable}
use Rattle.cfg_model.specs.Rows.{IsSetOf, AreRowsOf}
use Rattle.cfg_model.specs.Items.{right_of}
use Rattle.lalr_look.specs.declared.rests.Rests.{Rests}

-- FIRST of each nonterminal, and those that can vanish
pub record AreRests (g : Cfg) (rests : Rests) : Type 0 where
  pub firsts : AreRowsOf g.nonterminals (g.terminals + 1) (λ n t. First g (N n ∷ []) t) rests.firsts.items
  pub vanishing : IsSetOf g.nonterminals (λ n. Nullable g (N n ∷ [])) rests.vanishing

-- the symbols of a rule from a place on
abbrev pub rest_of : Cfg → ℕ → ℕ → List Sym
rest_of g rule place = drop place (right_of g rule)
