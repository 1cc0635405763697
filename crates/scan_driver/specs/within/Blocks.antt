-- Going back through a word by blocks.
use Rattle.std.specs.Prelude.{◌≡◌, ℕ, ◌+◌, ◌<◌, ◌≤◌, ◌↔◌, Bool, true, false, List, length, take, drop, reverse, get_or, IsSome}
use Rattle.rex_model.specs.Runs.{run, accepted, IsStateOf}
use Rattle.rex_model.specs.Tables.{AreParts}
use Rattle.scan_driver.specs.declared.cutting.Back.{Back}
use Rattle.scan_driver.specs.declared.cutting.Back.TheVariants.{At, Passed}
use Rattle.rex_model.specs.Runs.{Automaton}
use Rattle.rex_model.specs.Tables.{Halves}

-- flag j says of the place begin + 1 + j, up to `end`, whether the automaton accepts the bytes before it
abbrev pub AreFlags : Automaton → List ℕ → ℕ → ℕ → List Bool → Type 0
AreFlags dfa word begin end flags =
    (j : ℕ) → begin + j < end → (get_or flags j false ≡ true) ↔ IsSome (accepted dfa (run dfa 0 (take (begin + j + 1) word)))

-- the state after the bytes behind place n, read from the end
pub record IsBehind (dfa : Automaton) (word : List ℕ) (n state : ℕ) : Type 0 where
  pub within : n ≤ length word
  pub is : state ≡ run dfa 0 (reverse (drop n word))
  pub state_of : IsStateOf dfa state

-- behind place n there is no cut
pub record Cutting (split : Halves) (word : List ℕ) (n state : ℕ) : Type 0 where
  pub behind : IsBehind split.backward word n state
  pub none : (k : ℕ) → n < k → AreParts split word k → ⊥

-- the greatest length within a block at which both parts match, or the state at the block's begin
abbrev pub IsBack : Halves → List ℕ → ℕ → Back → Type 0
IsBack split word begin (At n) = AreParts split word n × ((k : ℕ) → AreParts split word k → k ≤ n)
IsBack split word begin (Passed state) = Cutting split word begin state
