-- What was read is what it was; each reduction makes the number of the stack greater.
use Rattle.std.proofs.Common.{List, Some}
use Rattle.parse_driver.specs.within.LrStack.{LrState}
use Rattle.parse_driver.specs.declared.tokens.TokenRef.{TokenRef}
use Rattle.parse_driver.proofs.LrMeasure.{measure}
use Rattle.parse_driver.proofs.lr.settle.Given as goal

abbrev pub invariant-reductions : goal.invariant-reductions
invariant-reductions g l = (read : List TokenRef)
    → LrState (g.T.LrTable.grammar l.fn.table) (g.T.LrTable.table l.fn.table) read l.fn.states.items l.fn.steps.items (Some l.fn.t)
    → LrState (g.T.LrTable.grammar l.fn.table) (g.T.LrTable.table l.fn.table) read l.states.items l.steps.items (Some l.fn.t)

abbrev pub decreases-reductions : goal.decreases-reductions
decreases-reductions g l = measure (g.T.LrTable.grammar l.fn.table) l.steps.items
