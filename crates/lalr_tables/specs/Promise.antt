-- What the making of an LALR(1) table comes to.
use Rattle.std.specs.Prelude.{◌≡◌, Some}
use Rattle.cfg_model.specs.Cfg.{Cfg}
use Rattle.cfg_model.specs.CoreTables.{IsTableOfCores}
use Rattle.cfg_model.specs.Cores.{CoreList, HasMoreCores}
use Rattle.cfg_model.specs.LalrConflicts.{LalrReport}
use Rattle.cfg_model.specs.LrTables.{IsLr, NoneCyclic, NoneHiddenLeft}
use Rattle.cfg_model.specs.Searches.{IsLeast, IsUnproductive, Cyclic, HiddenLeft}
use Rattle.cfg_model.specs.Sets.{AllProductive, Reachable}
use Rattle.cfg_model.specs.declared.refused.LalrError.{LalrError}
use Rattle.cfg_model.specs.declared.refused.LalrError.TheVariants as refused
use Rattle.lalr_tables.specs.Table.{answers_of, grammar_of}
use Rattle.lalr_tables.specs.declared.plain.PlainLr.{PlainLr}

-- it is a table of this grammar, whose states are the grammar's cores by their numbers
pub record IsTableOf (g : Cfg) (table : PlainLr) : Type 0 where
  pub of_grammar : grammar_of table ≡ g
  pub cores : CoreList
  pub of_cores : IsTableOfCores g cores (answers_of table)

-- the grammar has a table, which has at most 4,096 states
pub record HasTable (g : Cfg) : Type 0 where
  pub accepted : IsLr g
  pub few : HasMoreCores g 4096 → ⊥

-- why there is none: the first cause in order; want of memory has none. The rule of a conflict counts from
-- 1, since rule 0 stands in none where no nonterminal is cyclic.
abbrev pub IsRefused : Cfg → LalrError → Type 0
IsRefused g (refused.Unproductive n) = IsUnproductive g (Some n)
IsRefused g (refused.Cyclic n) = AllProductive g × IsLeast (λ m. Reachable g m × Cyclic g m) (Some n)
IsRefused g (refused.HiddenLeft n) =
    AllProductive g × NoneCyclic g × IsLeast (λ m. Reachable g m × HiddenLeft g m) (Some n)
IsRefused g refused.TooManyStates = AllProductive g × NoneCyclic g × NoneHiddenLeft g × HasMoreCores g 4096
IsRefused g (refused.LalrConflict t r o) =
    AllProductive g × NoneCyclic g × NoneHiddenLeft g × (HasMoreCores g 4096 → ⊥) × LalrReport g t r o
IsRefused g refused.NoMemory = Unit {0}
