-- The types of the lines so far.
use Rattle.std.proofs.Common.{map}
use Rattle.node_spec.specs.within.AstSeen.{declared_by}
use Rattle.node_spec.proofs.AstTwiceLists.{RowsSoFar}
use Rattle.node_spec.proofs.rows.rows_of.Given as goal

abbrev pub invariant-loop-line : goal.invariant-loop-line
invariant-loop-line l = RowsSoFar (map declared_by l.list) l.line-index l.firsts l.rows.items
