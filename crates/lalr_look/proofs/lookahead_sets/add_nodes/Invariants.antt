use Rattle.std.proofs.Common.{◌≡◌, ℕ, ◌<◌, Contains, slice_get, Some}
use Rattle.lalr_look.specs.within.LookGraph.{slot_of}
use Rattle.lalr_look.proofs.lookahead_sets.add_nodes.Given as goal

abbrev pub invariant-loop-item : goal.invariant-loop-item
invariant-loop-item l =
    ((node : ℕ × ℕ) → Contains l.initial.nodes node → Contains l.nodes node)
    × ((j r d : ℕ) → j < l.item-index → slice_get l.items j ≡ Some (r, d) → Contains l.nodes (l.core, slot_of l.g r d))
