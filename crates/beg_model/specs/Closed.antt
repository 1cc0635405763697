-- What the labels of one node are once no rule improves them.
use Rattle.std.specs.Prelude.{◌≡◌, ℕ, ◌+◌, ◌<◌, ◌≤◌, ◌⊎◌, List, Some, None}
use Rattle.beg_model.specs.Fitting.{Subgoal}
use Rattle.beg_model.specs.Cover.{Application}
use Rattle.beg_model.specs.Labels.{Costs, Sums}

-- the labels of a node: each is at least what its rule gives; no rule gives less below the bound, and of those that give as
-- much the rule is the first
pub record ClosedAt (Applies : Application) (cap : ℕ) (costs rules : Costs) (n : ℕ) : Type 0 where
  pub over : (x c : ℕ) → costs n x ≡ Some c → (r : ℕ) × (k : ℕ) × (e : ℕ) × (ps : List Subgoal)
      × (rules n x ≡ Some r) × Applies r n x k ps × Sums costs ps e × (k + e ≤ c) × (c < cap)
  pub first : (r x k e : ℕ) (ps : List Subgoal) → Applies r n x k ps → Sums costs ps e → k + e < cap
      → (c : ℕ) × (q : ℕ) × (costs n x ≡ Some c) × (rules n x ≡ Some q) × ((c < k + e) ⊎ ((c ≡ k + e) × (q ≤ r)))
  pub none : (x : ℕ) → costs n x ≡ None → rules n x ≡ None
