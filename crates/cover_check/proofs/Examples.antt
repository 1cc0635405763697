-- Which of two pairs that aren't right is the first.
use Rattle.std.proofs.Common.{◌≡◌, ℕ, zero, suc, ◌<◌, [], ◌∷◌, Option, Some, inl, arith, refl}
use Rattle.std.specs.Prelude.{slice_get}
use Rattle.beg_model.specs.Cover.{Application}
use Rattle.beg_model.specs.Labels.{Costs, IsRightAt}
use Rattle.cover_check.specs.Checked.{IsFirstWrong}

same_number : {o : Option ℕ} {a b : ℕ} → o ≡ Some a → o ≡ Some b → a ≡ b
same_number e f = cc

-- a node that stands earlier comes first, also with a later nonterminal
earlier_node_first : (A : Application) (costs rules : Costs) (m n : ℕ) → (m ≡ n → ⊥) → IsFirstWrong A costs rules (m ∷ n ∷ []) 2 n 0
    → IsRightAt A costs rules m 1
earlier_node_first A costs rules m n differ f = go f.at f.stands (λ lt. f.before 0 m 1 refl (omega arith) (inl lt))
  where
    go : (at : ℕ) → slice_get (m ∷ n ∷ []) at ≡ Some n → (0 < at → IsRightAt A costs rules m 1) → IsRightAt A costs rules m 1
    go zero e right = absurd (differ (same_number refl e))
    go (suc at) e right = right (omega arith)
