-- The families of the lines so far.
use Rattle.std.proofs.Common.{map}
use Rattle.node_spec.specs.within.AstSeen.{declared_by}
use Rattle.node_spec.proofs.AstTypeTable.{FamiliesSoFar}
use Rattle.node_spec.proofs.table.add_families.Given as goal

abbrev pub invariant-loop-line : goal.invariant-loop-line
invariant-loop-line l = FamiliesSoFar (map declared_by l.list) l.line-index l.types
