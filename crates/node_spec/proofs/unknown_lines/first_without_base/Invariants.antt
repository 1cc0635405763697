-- The families and types of the lines so far are known, and no base so far is missing among those before it.
use Rattle.std.proofs.Common.{map}
use Rattle.node_spec.specs.within.AstSeen.{declared_by}
use Rattle.node_spec.proofs.AstUnknown.{BasesSoFar}
use Rattle.node_spec.proofs.unknown_lines.first_without_base.Given as goal

abbrev pub invariant-loop-line : goal.invariant-loop-line
invariant-loop-line l = BasesSoFar (map declared_by l.list) l.line-index l.known
