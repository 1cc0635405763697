-- The families of the lines so far.
use Rattle.std.proofs.Common.{map}
use Rattle.node_spec.specs.within.AstSeen.{declared_by}
use Rattle.node_spec.proofs.AstFamilies.{FamiliesSoFar}
use Rattle.node_spec.proofs.families.families_of.Given as goal

abbrev pub invariant-loop-line : goal.invariant-loop-line
invariant-loop-line l = FamiliesSoFar (map declared_by l.list) l.line-index l.names l.targets.items
