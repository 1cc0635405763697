-- Runs over one word after the other, and from no state.
use Rattle.std.proofs.Common.{◌≡◌, ℕ, ◌+◌, ◌<◌, List, [], ◌∷◌, ◌++◌, length, take, get_or, refl, ap, ◌∙◌}
use Rattle.std.proofs.lemmas.List.{take_more}
use Rattle.rex_model.specs.Runs.{Automaton, nowhere, moved, run}

pub run-append : (dfa : Automaton) (s : ℕ) (u v : List ℕ) → run dfa s (u ++ v) ≡ run dfa (run dfa s u) v
run-append dfa s [] v = refl
run-append dfa s (b ∷ u) v = run-append dfa (moved dfa s b) u v

-- a run over one byte more
pub run_more : (dfa : Automaton) (s i : ℕ) (text : List ℕ) → i < length text
    → run dfa s (take (i + 1) text) ≡ moved dfa (run dfa s (take i text)) (get_or text i 0)
run_more dfa s i text within = ap (run dfa s) (take_more text i 0 within) ∙ run-append dfa s (take i text) (get_or text i 0 ∷ [])

-- from no state no word leads anywhere
pub run_nowhere : (dfa : Automaton) (w : List ℕ) → run dfa nowhere w ≡ nowhere
run_nowhere dfa [] = refl
run_nowhere dfa (b ∷ w) = run_nowhere dfa w
