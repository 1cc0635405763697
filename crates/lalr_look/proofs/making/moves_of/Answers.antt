use Rattle.std.proofs.Common.{sym, subst, arith}
use Rattle.lalr_look.specs.within.Kernel.{Rows}
use Rattle.lalr_look.proofs.making.moves_of.Goals as goal

pub loop-i-init : goal.loop-i-init
loop-i-init c = (
  subst (λ l. Rows c.args.g.now c.args.items.now c.args.kernels.now 0 c.args.kernels.now l) (sym c.new-row.ensures.items) Rows.at_first,
  omega arith,
  c.in_ok-moved_items.ensures.long,
  λ k le. c.in_ok-moved_items.ensures.moves k,
)
