-- What the scanner tables of the program mean as tables.
use Rattle.std.specs.Prelude.{map}
use Rattle.rex_model.specs.Runs.{Automaton}
use Rattle.rex_model.specs.Tables.{Halves, Tables}
use Rattle.rex_model.specs.declared.tables.Dfa.{Dfa}
use Rattle.rex_model.specs.declared.tables.ScanTables.{ScanTables}
use Rattle.rex_model.specs.declared.tables.Split.{Split}

-- the automaton that an automaton of the program stands for
abbrev pub automaton_of : Dfa → Automaton
automaton_of dfa = record { moves = dfa.moves.items; accepts = dfa.accepts.items }

-- the split that a split of the program stands for
abbrev pub halves_of : Split → Halves
halves_of split = record {
  rule = split.rule;
  forward = automaton_of split.forward;
  backward = automaton_of split.backward;
}

-- the tables that those of the program stand for
abbrev pub tables_of : ScanTables → Tables
tables_of tables = record {
  starts = tables.starts.items;
  main = automaton_of tables.main;
  splits = map halves_of tables.splits.items;
  actions = tables.actions.items;
}
