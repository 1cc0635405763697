use Rattle.std.proofs.Common.{arith, sym, ap, ◌∙◌}
use Rattle.std.specs.Prelude.{slice_get}
use Rattle.ast_types.specs.Items.{child_families}
use Rattle.ast_types.proofs.Counts.{past_end, drop_end}
use Rattle.ast_types.proofs.item.nth_child.Goals as goal

pub returns : goal.returns
returns c =
    absurd (past_end (child_families c.args.items.now) c.args.i
    (sym c.loop-item.invariant ∙ ap (λ is. slice_get (child_families is) c.loop-item.left) (drop_end c.args.items.now c.loop-item.item-index (let end = c.loop-item-test.false in omega (arith, end))))
    c.requires)
