-- Candidates at a place in a state, and the winner among them.
use Rattle.std.specs.Prelude.{◌≡◌, ℕ, ◌-◌, ◌<◌, ◌≤◌, IsTrue, List, length, take, drop, Option, Some, None, slice_get}
use Rattle.rex_model.specs.Language.{Language}
use Rattle.rex_model.specs.Rules.{Rule, trailing}

-- rule i has a candidate at the beginning of `rest`: its text is the first n bytes, and text and
-- context together are the first m
pub record Candidate (rules : List Rule) (state : ℕ) (rest : List ℕ) (i n m : ℕ) : Type 0 where
  pub rule : Rule
  pub is_rule : slice_get rules i ≡ Some rule
  pub active : IsTrue (rule.active state)
  pub some : 0 < n
  pub fits : n ≤ m
  pub within : m ≤ length rest
  pub body : Language rule.body (take n rest)
  pub context : Language (trailing rule.context) (take (m - n) (drop n rest))

-- the candidate that wins: the longest with its context, then of the first rule, then with the
-- longest text
pub record Winner (rules : List Rule) (state : ℕ) (rest : List ℕ) (i n m : ℕ) : Type 0 where
  pub candidate : Candidate rules state rest i n m
  pub longest : (j k l : ℕ) → Candidate rules state rest j k l → l ≤ m
  pub first : (j k : ℕ) → Candidate rules state rest j k m → i ≤ j
  pub greatest : (k : ℕ) → Candidate rules state rest i k m → k ≤ n

-- no rule has a candidate at the beginning of `rest`
abbrev pub HasNoCandidate : List Rule → ℕ → List ℕ → Type 0
HasNoCandidate rules state rest = (i n m : ℕ) → Candidate rules state rest i n m → ⊥

-- the state that is named, else the old one
abbrev pub state_or : Option ℕ → ℕ → ℕ
state_or None old = old
state_or (Some new) old = new

-- the state after a text of the rule: the one that it names, else the same
abbrev pub next_state : Rule → ℕ → ℕ
next_state rule state = state_or rule.next state
