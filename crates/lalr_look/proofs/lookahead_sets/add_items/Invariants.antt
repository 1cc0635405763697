use Rattle.std.proofs.Common.{◌+◌, length}
use Rattle.lalr_look.specs.within.Graph.{Grows, IsSized, OfFirst}
use Rattle.lalr_look.specs.within.LookGraph.{LeadsBy, OwnBy}
use Rattle.lalr_look.proofs.lookahead_sets.add_items.Given as goal

abbrev pub invariant-loop-item : goal.invariant-loop-item
invariant-loop-item l =
    Grows l.initial.graph l.graph
    (OfFirst (λ item. LeadsBy l.g l.cores l.nodes l.core (item.0) (item.1)) l.items l.item-index)
    (OfFirst (λ item. OwnBy l.g l.nodes l.core (item.0) (item.1)) l.items l.item-index)
    × IsSized (length l.nodes) (l.g.terminals + 1) l.graph
