-- What the making of an LL(1) table comes to.
use Rattle.std.specs.Prelude.{◌≡◌, Some}
use Rattle.cfg_model.specs.Cfg.{Cfg}
use Rattle.cfg_model.specs.LlConflicts.{LlReport}
use Rattle.cfg_model.specs.LlTables.{IsLl, NoneLeftRecursive, IsLlTable}
use Rattle.cfg_model.specs.Searches.{IsLeast, IsUnproductive, LeftRecursive}
use Rattle.cfg_model.specs.Sets.{AllProductive, Reachable}
use Rattle.ell_tables.specs.Table.{answer_of, grammar_of}
use Rattle.ell_tables.specs.declared.plain.PlainLl.{PlainLl}
use Rattle.ell_tables.specs.declared.refusal.EllError.{EllError}
use Rattle.ell_tables.specs.declared.refusal.EllError.TheVariants as refused

-- it is a table of this grammar
pub record IsTableOf (g : Cfg) (table : PlainLl) : Type 0 where
  pub of_grammar : grammar_of table ≡ g
  pub is_table : IsLlTable g (answer_of table)

-- the grammar has a table
abbrev pub HasTable : Cfg → Type 0
HasTable g = IsLl g

-- why there is none: the first cause in order; want of memory has none
abbrev pub IsRefused : Cfg → EllError → Type 0
IsRefused g (refused.Unproductive n) = IsUnproductive g (Some n)
IsRefused g (refused.LeftRecursive n) = AllProductive g × IsLeast (λ m. Reachable g m × LeftRecursive g m) (Some n)
IsRefused g (refused.LlConflict n r q t) = AllProductive g × NoneLeftRecursive g × LlReport g n r q t
IsRefused g refused.NoMemory = Unit {0}
