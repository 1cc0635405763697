-- Each child so far is visited as often as its family's number.
use Rattle.std.proofs.Common.{◌≡◌, ℕ, ◌<◌, length}
use Rattle.ag_model.specs.Plans.{counted, is_visit, visit_count}
use Rattle.ag_model.specs.within.TypePlans.{own_steps, below}
use Rattle.ag_model.proofs.fits.are_all_visited.Given as goal

abbrev pub invariant-loop-c : goal.invariant-loop-c
invariant-loop-c l = (c : ℕ) → c < l.c → counted (is_visit c) (own_steps l.p) (length (own_steps l.p)) ≡ visit_count (below l.p c)
