-- Automata and their runs.
use Rattle.std.specs.Prelude.{◌≡◌, ℕ, ◌+◌, ◌*◌, ◌<◌, ◌≤◌, ◌==◌, ◌⊎◌, if◌then◌else◌, List, [], ◌∷◌, length, take, get_or, Option, Some, None, All, slice_index}

-- an automaton: in each state, from 0, 256 moves and what is accepted there
pub record Automaton : Type 0 where
  pub moves : List ℕ
  pub accepts : List (Option ℕ)

-- the number that stands for no state
abbrev pub nowhere : ℕ
nowhere = 65535

-- a number of a state, or no state
abbrev pub IsStateOf : Automaton → ℕ → Type 0
IsStateOf dfa s = (s ≡ nowhere) ⊎ (s < length dfa.accepts)

-- the state after a byte; from no state no byte leads anywhere
abbrev pub moved : Automaton → ℕ → ℕ → ℕ
moved dfa s byte = if s == nowhere then nowhere else slice_index dfa.moves (256 * s + byte)

-- the state after a word
abbrev pub run : Automaton → ℕ → List ℕ → ℕ
run dfa s [] = s
run dfa s (byte ∷ w) = run dfa (moved dfa s byte) w

-- what is accepted in a state
abbrev pub accepted : Automaton → ℕ → Option ℕ
accepted dfa s = if s == nowhere then None else get_or dfa.accepts s None

-- the numbers are bytes
abbrev pub AreBytes : List ℕ → Type 0
AreBytes w = All (λ byte. byte < 256) w

-- of all beginnings of the text that are accepted from the state, the one of m bytes is the longest;
-- there the automaton accepts i
pub record IsLongestRun (dfa : Automaton) (s : ℕ) (text : List ℕ) (i m : ℕ) : Type 0 where
  pub within : m ≤ length text
  pub accepts : accepted dfa (run dfa s (take m text)) ≡ Some i
  pub longest : (l j : ℕ) → l ≤ length text → accepted dfa (run dfa s (take l text)) ≡ Some j → l ≤ m

-- no beginning of the text is accepted from the state
abbrev pub AcceptsNothing : Automaton → ℕ → List ℕ → Type 0
AcceptsNothing dfa s text = (l j : ℕ) → l ≤ length text → accepted dfa (run dfa s (take l text)) ≡ Some j → ⊥
