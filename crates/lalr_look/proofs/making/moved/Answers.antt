use Rattle.std.proofs.Common.{◌+◌, ap, ◌∙◌}
use Rattle.lalr_look.specs.within.Rows.{rows_of}
use Rattle.lalr_look.proofs.Sorting.{sorted_first, sorted_next}
use Rattle.lalr_look.proofs.making.moved.Goals as goal

pub loop-item-init : goal.loop-item-init
loop-item-init c = (
  c.in_ok-rows.ensures.long ∙ ap (λ g. g.terminals + g.nonterminals) c.g.view_is,
  sorted_first c.args.g.now c.args.items.now (rows_of c.in_ok-rows.rows.items) c.in_ok-rows.ensures.empty,
)

pub loop-item-preserved : goal.loop-item-preserved
loop-item-preserved c = (
  c.in_ok-sort_in.ensures.long ∙ (c.loop-item.invariant).0,
  sorted_next c.args.g.now c.args.items.now c.loop-item.item-index _ (rows_of c.loop-item.rows.items) (rows_of c.sort_in.new.rows.items)
      c.loop-item-test.true (c.loop-item.invariant).1 c.in_ok-sort_in.ensures.sorted,
)
