-- None of the lines so far names by a reserved word.
use Rattle.std.proofs.Common.{map}
use Rattle.section_frame.proofs.Frame.{NoneBefore}
use Rattle.node_spec.specs.within.AstSeen.{declared_by}
use Rattle.node_spec.specs.within.AstTwice.{IsReserved}
use Rattle.node_spec.proofs.reserved.first_reserved.Given as goal

abbrev pub invariant-loop-line : goal.invariant-loop-line
invariant-loop-line l = NoneBefore (map declared_by l.list) IsReserved l.line-index
