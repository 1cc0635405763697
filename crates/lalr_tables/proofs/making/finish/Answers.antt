-- Filled rows are the grammar's table.
use Rattle.std.proofs.Common.{sym, subst₂}
use Rattle.cfg_model.specs.CoreTables.{IsTableOfCores}
use Rattle.lalr_tables.specs.Table.{rows_table}
use Rattle.lalr_tables.proofs.Made.{of_cores}
use Rattle.lalr_tables.proofs.making.finish.Goals as goal

pub returns : goal.returns
returns c =
    let g = c.args.g.now in
    let cores = c.args.cores.now in
    let actions = c.args.actions.items in
    let gotos = c.in_ok-gotos.gotos.items in
    let (looks, are, filled) = c.requires.actions in
    record {
      of_grammar = c.in_ok-grammar.ensures;
      cores = cores;
      of_cores = subst₂ (λ h n. IsTableOfCores g cores (rows_table h n actions gotos)) (sym c.in_ok-grammar.ensures) (sym c.len.ensures)
          (of_cores g c.requires.accepted cores c.requires.cores looks are actions gotos filled c.in_ok-gotos.ensures);
    }
