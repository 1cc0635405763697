-- None of the lines so far uses a value twice.
use Rattle.std.proofs.Common.{map}
use Rattle.section_frame.proofs.Frame.{NoneBefore}
use Rattle.node_spec.specs.within.AstSeen.{declared_by}
use Rattle.node_spec.specs.within.AstTwice.{UsesTwice}
use Rattle.node_spec.proofs.used_twice.first_used_twice.Given as goal

abbrev pub invariant-loop-line : goal.invariant-loop-line
invariant-loop-line l = NoneBefore (map declared_by l.list) (UsesTwice l.g) l.line-index
