use Rattle.std.proofs.Common.{◌≡◌, ℕ, All, length}
use Rattle.lalr_look.specs.within.Graph.{InSet}
use Rattle.lalr_look.proofs.graph.empty_sets.Given as goal

abbrev pub invariant-loop : goal.invariant-loop
invariant-loop l =
    (length l.sets.items ≡ l.counter)
    × All (λ set. set.size ≡ l.size) l.sets.items
    × ((k a : ℕ) → InSet l.sets.items k a → ⊥)
