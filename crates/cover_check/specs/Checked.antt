-- The first pair of a node and a nonterminal that isn't right.
use Rattle.std.specs.Prelude.{◌≡◌, ℕ, ◌<◌, ◌⊎◌, List, Some, slice_get}
use Rattle.beg_model.specs.Cover.{Application}
use Rattle.beg_model.specs.Labels.{Costs, IsRightAt}

-- the pair isn't right, and the pairs before it are: those of the nodes that stand before its node in the order, and those of its
-- node with a nonterminal before its own
pub record IsFirstWrong (Applies : Application) (costs rules : Costs) (order : List ℕ) (nonterminals n x : ℕ) : Type 0 where
  pub at : ℕ
  pub stands : slice_get order at ≡ Some n
  pub there : x < nonterminals
  pub wrong : IsRightAt Applies costs rules n x → ⊥
  pub before : (j m y : ℕ) → slice_get order j ≡ Some m → y < nonterminals → (j < at) ⊎ ((j ≡ at) × (y < x))
      → IsRightAt Applies costs rules m y
