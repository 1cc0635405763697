-- The items so far.
use Rattle.std.proofs.Common.{length, map}
use Rattle.spec_text.specs.Seen.{seen}
use Rattle.node_spec.specs.within.AstSeen.{item_seen}
use Rattle.node_spec.proofs.Items.{ItemsSoFar}
use Rattle.node_spec.proofs.line_items.listed_items.Given as goal

abbrev pub invariant-loop-behind : goal.invariant-loop-behind
invariant-loop-behind l = ItemsSoFar (map seen l.tokens) (map seen l.rest) (map item_seen l.items.items)

abbrev pub decreases-loop-behind : goal.decreases-loop-behind
decreases-loop-behind l = length l.rest
