-- Each item so far has a type.
use Rattle.std.proofs.Common.{map}
use Rattle.section_frame.proofs.Frame.{NoneBefore}
use Rattle.node_spec.specs.within.AstSeen.{declared_by}
use Rattle.node_spec.specs.within.AstUnknown.{ItemFault}
use Rattle.node_spec.proofs.unknown_lines.first_without_item_type.Given as goal

abbrev pub invariant-loop-line : goal.invariant-loop-line
invariant-loop-line l = NoneBefore (map declared_by l.list) (ItemFault l.families) l.line-index
