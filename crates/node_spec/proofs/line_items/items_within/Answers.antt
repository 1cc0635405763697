-- `)` alone, or a list before it.
use Rattle.node_spec.proofs.LineReadings.{nothing_within, listed_within}
use Rattle.node_spec.proofs.line_items.items_within.Goals as goal

pub returns-then-is_closed : goal.returns-then-is_closed
returns-then-is_closed c = nothing_within _ (c.is_closed.ensures.0 c.if-is_closed.true)

pub returns-then-is_closed-2 : goal.returns-then-is_closed-2
returns-then-is_closed-2 c =
    listed_within _ _ _ (rw c.in-Some.is at c.in_ok-items.ensures) (c.is_closed-2.ensures.0 c.if-is_closed-2.true)
