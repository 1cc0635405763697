-- The main automaton of scan rules.
use Rattle.std.specs.Prelude.{IsTrue, ◌≡◌, ℕ, ◌<◌, List, length, slice_get, slice_index, Some}
use Rattle.rex_model.specs.Language.{Language}
use Rattle.rex_model.specs.Sets.{body_and_context}
use Rattle.rex_model.specs.Rules.{Rule}
use Rattle.rex_dfa.specs.within.Marks.{IsLeast}
use Rattle.rex_model.specs.Runs.{run, accepted, AreBytes, IsStateOf}
use Rattle.rex_model.specs.ScanSets.{HasMoreScanSets}
use Rattle.rex_model.specs.Tables.{IsDfa}
use Rattle.rex_model.specs.Runs.{Automaton}

-- rule i is active in the state, and the word is one of its body and context
pub record IsFound (rules : List Rule) (state i : ℕ) (w : List ℕ) : Type 0 where
  pub rule : Rule
  pub is_rule : slice_get rules i ≡ Some rule
  pub active : IsTrue (rule.active state)
  pub word : Language (body_and_context rule) w

-- the automaton accepts the least active rule of each word, from the start of each state
pub record IsMain (rules : List Rule) (states : ℕ) (starts : List ℕ) (dfa : Automaton) : Type 0 where
  pub count : length starts ≡ states
  pub is_dfa : IsDfa dfa
  pub inside : (k : ℕ) → k < states → IsStateOf dfa (slice_index starts k)
  pub least : (state : ℕ) (w : List ℕ) → state < states → AreBytes w
      → IsLeast (λ i. IsFound rules state i w) (accepted dfa (run dfa (slice_index starts state) w))
  pub marked : (s i : ℕ) → slice_get dfa.accepts s ≡ Some (Some i) → i < length rules
  pub few : HasMoreScanSets rules states 4096 → ⊥
