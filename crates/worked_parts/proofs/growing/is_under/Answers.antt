use Rattle.std.proofs.Common.{arith}
use Rattle.tree_store.specs.Forest.{here, below}
use Rattle.worked_parts.proofs.growing.is_under.Goals as goal

pub returns-then-at-root-clause-under : goal.returns-then-at-root-clause-under
returns-then-at-root-clause-under c = λ _. c.loop-turn.invariant.1 (here c.loop-turn.at (omega (arith, c.if-at-root.true)))

pub loop-turn-preserved : goal.loop-turn-preserved
loop-turn-preserved c = (
  omega (arith, c.if-parent-len.false, c.len-in-loop-turn.ensures.count),
  λ under. c.loop-turn.invariant.1 (let (i, is) = c.in-Some.ensures in below c.in-Some.parent i c.loop-turn.at under is),
)
