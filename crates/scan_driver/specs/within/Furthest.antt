-- How far an automaton comes in a text.
use Rattle.std.specs.Prelude.{◌≡◌, ◌≢◌, ℕ, ◌<◌, ◌≤◌, List, length, take}
use Rattle.rex_model.specs.Runs.{Automaton, nowhere, run}

-- the first `len` bytes of the text lead to the state, and no more of them to any
pub record IsFurthest (dfa : Automaton) (s : ℕ) (text : List ℕ) (state len : ℕ) : Type 0 where
  pub within : len ≤ length text
  pub is : state ≡ run dfa s (take len text)
  pub state_of : state < length dfa.accepts
  pub some : state ≢ nowhere
  pub last : (l : ℕ) → len < l → l ≤ length text → run dfa s (take l text) ≡ nowhere
