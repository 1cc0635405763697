use Rattle.std.proofs.Common.{ℕ, ◌<◌, ◌≤◌, ◌+◌, ◌↔◌, Contains}
use Rattle.lalr_look.proofs.flow.all_below.Given as goal

-- the highest numbers are there, one for each turn
abbrev pub invariant-loop-turn : goal.invariant-loop-turn
invariant-loop-turn l = (k : ℕ) → Contains l.work.items k ↔ ((l.count ≤ k + l.turn) × (k < l.count))
