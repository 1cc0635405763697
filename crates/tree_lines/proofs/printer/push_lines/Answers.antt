use Rattle.std.proofs.Common.{ap, sym, ◌∙◌, refl}
use Rattle.tree_lines.proofs.Printed.{tree_printed}
use Rattle.tree_lines.proofs.printer.push_lines.Goals as goal

pub returns : goal.returns
returns g c = λ source literals v is.
    let printed = tree_printed g.R.RestOfLine.rest source literals c.args.types.now c.args.tree.now
    c.root.result _ _ c.walk-stopped.result v
    c.len-nodes.ensures.forest (rw (← c.len-nodes.ensures.count) c.len-nodes.ensures.few) c.root.ensures.only c.root.ensures.last is
    c.walk-stopped.ensures.fold (sym c.is_some.ensures ∙ c.if-is_some.false) refl in
    ap (λ p. p.output) c.printer.view_is ∙ rw (← c.replace.ensures.value) printed
