-- The items of the type above stand before its own.
use Rattle.std.proofs.Common.{ap, ◌∙◌, ◌++◌}
use Rattle.node_spec.proofs.AstTwiceLists.{row_extends}
use Rattle.node_spec.proofs.rows.row_extending.Goals as goal

pub returns : goal.returns
returns c =
    row_extends c.args.rows.now c.index-rows-number.result c.in-Some.number c.args.name.now c.args.base.now
    c.extend_from_slice.new.self.items c.args.own.now c.args.extended c.in-Some.is c.index-rows-number.is
    (rw c.in-Some.is at c.requires)
    (c.in_ok-extend_from_slice.ensures.items
    ∙ ap (λ l. l ++ c.args.own.now) (c.in_ok-items.ensures.items ∙ c.as_slice.ensures.value))
