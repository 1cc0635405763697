-- None of the lines so far has an item twice, and how many types they declare.
use Rattle.std.proofs.Common.{map}
use Rattle.node_spec.specs.within.AstSeen.{declared_by}
use Rattle.node_spec.proofs.AstTwicePasses.{ItemsSoFar}
use Rattle.node_spec.proofs.item_twice.first_item_twice.Given as goal

abbrev pub invariant-loop-line : goal.invariant-loop-line
invariant-loop-line l = ItemsSoFar (map declared_by l.list) l.line-index l.types
