use Rattle.std.proofs.Common.{◌+◌, length}
use Rattle.lalr_look.specs.within.Graph.{Grows, IsSized, OfBelow}
use Rattle.lalr_look.specs.within.LookGraph.{LeadsIn, OwnIn}
use Rattle.lalr_look.proofs.lookahead_sets.graph_of.Given as goal

abbrev pub invariant-loop-core : goal.invariant-loop-core
invariant-loop-core l =
    Grows l.initial.graph l.graph (OfBelow (LeadsIn l.g l.cores l.nodes) l.core) (OfBelow (OwnIn l.g l.cores l.nodes) l.core)
    × IsSized (length l.nodes) (l.g.terminals + 1) l.graph
