-- Each turn adds one row.
use Rattle.std.proofs.Common.{map}
use Rattle.std.proofs.lemmas.List.{length-map}
use Rattle.node_spec.specs.within.AstSeen.{declared_by}
use Rattle.node_spec.proofs.AstTypeTable.{few_types, family_fits, row_stands, table_more}
use Rattle.node_spec.proofs.table.table_of.Goals as goal

pub add_row-requires-clause-few : goal.add_row-requires-clause-few
add_row-requires-clause-few c =
    few_types (map declared_by c.args.list.now) c.args.rows.now c.loop-row.row-index c.row-item.result _ c.args.families.now.names c.loop-row.types c.requires.rows
    c.row-item.is c.loop-row-test.true c.requires.families.names c.loop-row.invariant _ (length-map c.args.list.now declared_by)
    c.requires.few

pub add_row-requires-clause-family : goal.add_row-requires-clause-family
add_row-requires-clause-family c =
    family_fits (map declared_by c.args.list.now) c.args.rows.now c.loop-row.row-index c.row-item.result _ c.args.families.now.names c.loop-row.types c.requires.rows
    c.row-item.is c.loop-row-test.true c.requires.families.names c.loop-row.invariant c.requires.known

pub add_row-requires-clause-base : goal.add_row-requires-clause-base
add_row-requires-clause-base c =
    row_stands (map declared_by c.args.list.now) c.args.rows.now c.loop-row.row-index c.row-item.result _ c.args.families.now.names c.loop-row.types c.requires.rows
    c.row-item.is c.loop-row-test.true c.requires.families.names c.loop-row.invariant

pub loop-row-preserved : goal.loop-row-preserved
loop-row-preserved c =
    table_more (map declared_by c.args.list.now) c.args.rows.now c.loop-row.row-index c.row-item.result _ c.args.families.now.names c.loop-row.types c.requires.rows
    c.row-item.is c.loop-row-test.true c.requires.families.names c.loop-row.invariant c.add_row.new.types c.in_ok-add_row.ensures
