-- What an LL table with one cell for each nonterminal and each terminal says.
use Rattle.std.specs.Prelude.{ℕ, zero, suc, ◌+◌, ◌*◌, List, Option, Some, None, slice_index}
use Rattle.cfg_model.specs.Cfg.{Cfg}
use Rattle.ell_tables.specs.declared.plain.PlainLl.{PlainLl}

-- the cell of a nonterminal and a terminal, END among them; 0 stands for no rule
abbrev pub cell : Cfg → List ℕ → ℕ → ℕ → ℕ
cell g cells n t = slice_index cells (n * (g.terminals + 1) + t)

-- a cell as an answer
abbrev pub as_rule : ℕ → Option ℕ
as_rule zero = None
as_rule (suc r) = Some (suc r)

-- the grammar that the table is of
abbrev pub grammar_of : PlainLl → Cfg
grammar_of table = table.grammar

-- the rule to take for a nonterminal on a terminal
abbrev pub answer_of : PlainLl → ℕ → ℕ → Option ℕ
answer_of table n t = as_rule (cell table.grammar table.cells.items n t)
