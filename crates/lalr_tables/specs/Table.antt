-- What an LR table with one cell for each state and terminal, and one for each state and nonterminal, says.
use Rattle.std.specs.Prelude.{ℕ, zero, suc, ◌+◌, ◌-◌, ◌*◌, List, slice_index, cond, ltb}
use Rattle.cfg_model.specs.Cfg.{Cfg}
use Rattle.cfg_model.specs.Table.{Table}
use Rattle.cfg_model.specs.declared.action.LrAction.{LrAction}
use Rattle.cfg_model.specs.declared.action.LrAction.TheVariants.{Shift, Reduce, Accept, Error}
use Rattle.lalr_tables.specs.declared.plain.PlainLr.{PlainLr}

-- what is done at the complete item of a rule; rule 0 stands for the whole list
abbrev pub at_end_of : ℕ → LrAction
at_end_of zero = Accept
at_end_of (suc r) = Reduce (suc r)

-- a cell as an action: 0 is an error, r + 1 stands for the complete item of rule r, n + 2048 for a shift
-- to state n
abbrev pub as_action : ℕ → LrAction
as_action zero = Error
as_action (suc c) = cond (ltb c 2047) (at_end_of c) (Shift (c - 2047))

-- what rows of cells for so many states answer
abbrev pub rows_table : Cfg → ℕ → List ℕ → List ℕ → Table
rows_table g states actions gotos = record {
  states = states;
  act = λ n t. as_action (slice_index actions (n * (g.terminals + 1) + t));
  go = λ n b. slice_index gotos (n * g.nonterminals + b);
}

-- the grammar that the table is of
abbrev pub grammar_of : PlainLr → Cfg
grammar_of table = table.grammar

-- what the table answers
abbrev pub answers_of : PlainLr → Table
answers_of table = rows_table table.grammar table.states table.actions.items table.gotos.items
