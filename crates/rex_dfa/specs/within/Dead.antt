-- An automaton that accepts nothing.
use Rattle.std.specs.Prelude.{◌≡◌, ℕ, ◌<◌, List, length, None}
use Rattle.rex_model.specs.Runs.{run, accepted, AreBytes}
use Rattle.rex_model.specs.Tables.{IsDfa}
use Rattle.rex_model.specs.Runs.{Automaton}

pub record IsDead (dfa : Automaton) : Type 0 where
  pub is_dfa : IsDfa dfa
  pub begins : 0 < length dfa.accepts
  pub nothing : (w : List ℕ) → AreBytes w → accepted dfa (run dfa 0 w) ≡ None
