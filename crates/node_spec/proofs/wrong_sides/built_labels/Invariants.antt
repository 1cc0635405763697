-- The labels of BUILD lines so far are met.
use Rattle.std.proofs.Common.{map}
use Rattle.node_spec.specs.within.AstSeen.{declared_by}
use Rattle.node_spec.proofs.JoinedFamilies.{BuiltSoFar}
use Rattle.node_spec.proofs.wrong_sides.built_labels.Given as goal

abbrev pub invariant-loop-line : goal.invariant-loop-line
invariant-loop-line l = BuiltSoFar (map declared_by l.list) l.line-index l.names
