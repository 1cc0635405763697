use Rattle.std.proofs.Common.{◌++◌, ap, ◌∙◌}
use Rattle.tree_lines.proofs.WithFields.{with_fields}
use Rattle.tree_lines.proofs.printer.push_tree.Goals as goal

pub returns : goal.returns
returns c = λ v is.
    c.in_ok-push_lines.ensures c.args.texts.now.source.now c.args.texts.now.literals.now v is
    ∙ ap (λ lines. c.args.out.now.items ++ lines) (with_fields _ c.args.tree.now 0 v is.are)
