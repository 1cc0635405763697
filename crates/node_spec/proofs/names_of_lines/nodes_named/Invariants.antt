-- The names of the lines so far.
use Rattle.std.proofs.Common.{map}
use Rattle.node_spec.specs.AstFaults.{nodes_in}
use Rattle.node_spec.specs.within.AstSeen.{declared_by}
use Rattle.node_spec.proofs.AstGathered.{MetSoFar}
use Rattle.node_spec.proofs.names_of_lines.nodes_named.Given as goal

abbrev pub invariant-loop-line : goal.invariant-loop-line
invariant-loop-line l = MetSoFar nodes_in (map declared_by l.list) l.line-index l.names
