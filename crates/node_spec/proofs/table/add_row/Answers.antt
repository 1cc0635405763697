-- The items of the base, and then those behind as many.
use Rattle.std.proofs.Common.{◌∙◌, ap, drop}
use Rattle.node_spec.proofs.AstTypeTable.{row_added}
use Rattle.node_spec.proofs.table.add_row.Goals as goal

pub returns : goal.returns
returns c =
    row_added c.args.families.now.names c.args.types.now c.add_type.new.self c.args.row.now _ _ _ _ c.requires.base
    c.number_of.ensures c.count_of_base-from.ensures
    (c.behind-rest.ensures ∙ ap (drop c.count_of_base-from.result) c.as_slice.ensures.value) c.in_ok-own.ensures
    c.in_ok-add_type.ensures.added
