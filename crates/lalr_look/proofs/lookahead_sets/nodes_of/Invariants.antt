use Rattle.std.proofs.Common.{ℕ, ◌<◌, Contains}
use Rattle.cfg_model.specs.Cores.{items_at}
use Rattle.lalr_look.specs.within.LookGraph.{slot_of}
use Rattle.lalr_look.proofs.lookahead_sets.nodes_of.Given as goal

abbrev pub invariant-loop-core : goal.invariant-loop-core
invariant-loop-core l =
    (n r d : ℕ) → n < l.core → Contains (items_at l.cores n) (r, d) → Contains l.nodes (n, slot_of l.g r d)
