-- The lines so far declare nothing again.
use Rattle.std.proofs.Common.{map}
use Rattle.node_spec.specs.within.AstSeen.{declared_by}
use Rattle.node_spec.proofs.AstTwicePasses.{AgainSoFar}
use Rattle.node_spec.proofs.declared_again.first_again.Given as goal

abbrev pub invariant-loop-line : goal.invariant-loop-line
invariant-loop-line l = AgainSoFar l.sort (map declared_by l.list) l.line-index l.names
