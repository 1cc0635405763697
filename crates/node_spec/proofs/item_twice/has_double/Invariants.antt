-- The names of the items so far, none of which is there twice.
use Rattle.std.proofs.Common.{map}
use Rattle.node_spec.specs.within.AstSeen.{item_seen}
use Rattle.node_spec.proofs.AstTwicePasses.{ApartSoFar}
use Rattle.node_spec.proofs.item_twice.has_double.Given as goal

abbrev pub invariant-loop-item : goal.invariant-loop-item
invariant-loop-item l = ApartSoFar (map (λ x. x.name) (map item_seen l.items)) l.item-index l.names
