-- LR tables whose states have the numbers of cores.
use Rattle.std.specs.Prelude.{◌≡◌, ℕ, ◌<◌, ◌≤◌, ◌⊎◌, List, ◌∷◌, length}
use Rattle.cfg_model.specs.declared.symbol.Sym.{Sym}
use Rattle.cfg_model.specs.declared.symbol.Sym.TheVariants.{N}
use Rattle.cfg_model.specs.Cfg.{Cfg}
use Rattle.cfg_model.specs.Cores.{CoreList, IsCore, IsCores}
use Rattle.cfg_model.specs.LrTables.{IsLrTable, state_after}
use Rattle.cfg_model.specs.Table.{Table}
use Rattle.cfg_model.specs.Valid.{HasCore}

-- A table of the grammar in which state n is core n of this list, and there is no further state. Where a
-- core has no move over a nonterminal its goto is 0, to which no move leads.
pub record IsTableOfCores (g : Cfg) (cores : CoreList) (table : Table) : Type 0 where
  pub is_table : IsLrTable g table
  pub are : IsCores g cores
  pub numbered : (p : List Sym) → HasCore g p → IsCore g cores (state_after table p) p
  pub counted : table.states ≡ length cores.items
  pub nowhere : (p : List Sym) (n : ℕ) → HasCore g p → n < g.nonterminals
      → HasCore g (N n ∷ p) ⊎ (table.go (state_after table p) n ≡ 0)

-- the tables have as many states, and say the same of them
pub record SameAnswers (g : Cfg) (a b : Table) : Type 0 where
  pub states : a.states ≡ b.states
  pub acts : (n t : ℕ) → n < a.states → t ≤ g.terminals → a.act n t ≡ b.act n t
  pub gotos : (n m : ℕ) → n < a.states → m < g.nonterminals → a.go n m ≡ b.go n m
