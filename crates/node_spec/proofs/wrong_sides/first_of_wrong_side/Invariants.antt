-- The types so far are counted, and no line so far is of the wrong side.
use Rattle.std.proofs.Common.{map}
use Rattle.node_spec.specs.within.AstSeen.{declared_by}
use Rattle.node_spec.proofs.AstSides.{SidesSoFar}
use Rattle.node_spec.proofs.wrong_sides.first_of_wrong_side.Given as goal

abbrev pub invariant-loop-line : goal.invariant-loop-line
invariant-loop-line l = SidesSoFar (map declared_by l.list) l.line-index l.types
