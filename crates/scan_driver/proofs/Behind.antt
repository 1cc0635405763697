-- The greatest place at which both automata of a split accept.
use Rattle.std.proofs.Common.{◌≡◌, ℕ, ◌-◌, ◌<◌, ◌≤◌, List, take, get_or, IsSome, arith, subst, sym, Some, ◌∙◌, inl, inr}
use Rattle.std.proofs.lemmas.Bool.{cases_eq}
use Rattle.rex_model.specs.Runs.{moved, run, accepted, IsStateOf}
use Rattle.std.proofs.lemmas.Option.{none-some, same_Some}
use Rattle.rex_model.specs.Tables.{AreParts, IsCut, whole, parts, split_of}
use Rattle.rex_model.specs.Tables.{Halves}
use Rattle.scan_driver.specs.within.Blocks.{IsBehind, Cutting}
use Rattle.scan_driver.proofs.RunsAlong.{behind_more}

pub cutting_more : (split : Halves) (word : List ℕ) (n state next : ℕ) → 0 < n → Cutting split word n state
    → (IsSome (accepted split.backward state) × IsSome (accepted split.forward (run split.forward 0 (take n word))) → ⊥)
    → next ≡ moved split.backward state (get_or word (n - 1) 0) → IsStateOf split.backward next → Cutting split word (n - 1) next
cutting_more split word n state next some before not_here moves state_of =
    let within = before.behind.within in
    record {
      behind = behind_more split.backward word (n - 1) state next (omega arith) (subst (λ k. IsBehind split.backward word k state) (omega arith) before.behind) moves state_of;
      none = λ k above parts. elim (cases_eq k n) [
        | inl same ↦
            let here : AreParts split word n = subst (AreParts split word) same parts in
            not_here (subst (λ t. IsSome (accepted split.backward t)) (sym before.behind.is) here.backward, here.forward)
        | inr other ↦ before.none k (omega arith) parts
      ];
    }

-- the greatest place found is where the word is cut
pub cut_at_greatest : (splits : List Halves) (word : List ℕ) (i result : ℕ) (split : Halves) → split_of splits i ≡ Some split
    → ((k : ℕ) → AreParts split word k → k ≤ result) → (((n : ℕ) × AreParts split word n) → AreParts split word result)
    → (n : ℕ) × IsCut splits word i n → IsCut splits word i result
cut_at_greatest splits word i result split is greatest here (n, whole none) = absurd (none-some split (sym none ∙ is))
cut_at_greatest splits word i result split is greatest here (n, parts other _ also there least) =
    parts split result is (here (n, subst (λ s. AreParts s word n) (same_Some other split (sym also ∙ is)) there)) greatest
