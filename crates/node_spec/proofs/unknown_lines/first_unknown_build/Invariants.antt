-- The BUILD lines so far name what is there.
use Rattle.std.proofs.Common.{map}
use Rattle.section_frame.proofs.Frame.{NoneBefore}
use Rattle.node_spec.specs.within.AstSeen.{declared_by}
use Rattle.node_spec.specs.within.AstUnknown.{BuildFault}
use Rattle.node_spec.proofs.unknown_lines.first_unknown_build.Given as goal

abbrev pub invariant-loop-line : goal.invariant-loop-line
invariant-loop-line l = NoneBefore (map declared_by l.list) (BuildFault l.labels l.types) l.line-index
