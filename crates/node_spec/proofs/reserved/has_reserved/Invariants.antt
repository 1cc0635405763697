-- None of the items so far is called by a reserved word.
use Rattle.std.proofs.Common.{map, Contains}
use Rattle.node_spec.specs.AstFaults.{reserved_words}
use Rattle.node_spec.specs.within.AstSeen.{item_seen}
use Rattle.node_spec.proofs.AstTwicePasses.{NoneYet}
use Rattle.node_spec.proofs.reserved.has_reserved.Given as goal

abbrev pub invariant-loop-item : goal.invariant-loop-item
invariant-loop-item l = NoneYet (λ item. Contains reserved_words item.name) (map item_seen l.items) l.item-index
