-- The tree of the source in print, or the refusal.
use Rattle.std.proofs.Common.{◌++◌, ap, ◌∙◌}
use Rattle.tree_lines.specs.TreeText.{tree_text}
use Rattle.ck_chain.proofs.InOrder.{refused_passed}
use Rattle.ck_chain.proofs.Treed.{tree_printed}
use Rattle.ck_chain.proofs.source_tree.printed_tree.Goals as goal

pub returns-in_err-tree : goal.returns-in_err-tree
returns-in_err-tree c = refused_passed _ _ _ _ _ c.from_residual.ensures.1 c.in_err-tree.ensures

pub returns : goal.returns
returns c =
    let is = c.in_ok-tree.ensures in
    let printed = c.in_ok-push_tree.ensures is.given.1 (rw c.bytes.ensures is.shows) in
    tree_printed _ _ _ _ _ _ _ is (printed ∙ ap (λ l. l ++ tree_text c.args.nodes.now.types 0 is.given.1) c.new-out.ensures.items)
