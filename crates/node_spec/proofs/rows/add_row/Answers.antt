-- The row is the first of its name where that is new.
use Rattle.std.proofs.Common.{rules}
use Rattle.node_spec.proofs.AstTwiceLists.{first_rows_with, row_is_called}
use Rattle.node_spec.proofs.rows.add_row.Goals as goal

pub returns-clause-firsts : goal.returns-clause-firsts
returns-clause-firsts c =
    first_rows_with _ _ c.args.rows.now.items c.push.new.self.items c.in_ok-row.row c.in-NodeType.name.now c.requires.firsts
    c.in_ok-add.ensures.names (search rules) c.in_ok-push.ensures.items
    (row_is_called _ c.in_ok-row.row _ _ _ _ c.in_ok-row.ensures)
