-- Well-formed scanner tables, and tables whose runs give the winners of scan rules.
use Rattle.std.specs.Prelude.{◌≡◌, ℕ, ◌*◌, ◌<◌, ◌≤◌, ◌==◌, if◌then◌else◌, List, [], ◌∷◌, length, take, drop, reverse, Option, Some, None, IsSome, All, slice_get, slice_index}
use Rattle.rex_model.specs.Winner.{Winner, HasNoCandidate}
use Rattle.rex_model.specs.Rules.{Rule}
use Rattle.rex_model.specs.declared.tables.ScanAction.{ScanAction}
use Rattle.rex_model.specs.Runs.{Automaton, IsStateOf, run, accepted, AreBytes, IsLongestRun, AcceptsNothing}

-- the automata that cut the text of a rule's token from its context
pub record Halves : Type 0 where
  pub rule : ℕ
  pub forward : Automaton
  pub backward : Automaton

-- scanner tables: for each start state the state of `main` in which it begins, and for each rule its
-- action; rules with a context have a split
pub record Tables : Type 0 where
  pub starts : List ℕ
  pub main : Automaton
  pub splits : List Halves
  pub actions : List ScanAction

-- 256 moves for each state, and each goes to a state or to none
pub record IsDfa (dfa : Automaton) : Type 0 where
  pub count : length dfa.moves ≡ 256 * length dfa.accepts
  pub inside : All (IsStateOf dfa) dfa.moves

-- both automata of a split begin in state 0
pub record IsSplit (split : Halves) : Type 0 where
  pub forward : IsDfa split.forward
  pub backward : IsDfa split.backward
  pub begins : 0 < length split.forward.accepts
  pub begins_back : 0 < length split.backward.accepts

-- each number is one of what it counts: each automaton's moves and the starts are its states or none,
-- each rule that is accepted has an action, and each action's next state is a start state
pub record IsWellFormed (tables : Tables) : Type 0 where
  pub main : IsDfa tables.main
  pub starts : All (IsStateOf tables.main) tables.starts
  pub splits : All IsSplit tables.splits
  pub actions : (s i : ℕ) → slice_get tables.main.accepts s ≡ Some (Some i) → i < length tables.actions
  pub next : (i state : ℕ) (action : ScanAction) → slice_get tables.actions i ≡ Some action
      → action.next ≡ Some state → state < length tables.starts

-- the first split of the rule
abbrev pub split_of : List Halves → ℕ → Option Halves
split_of [] i = None
split_of (split ∷ splits) i = if split.rule == i then Some split else split_of splits i

-- the forward automaton accepts the first n bytes of the word, and the backward one accepts the others,
-- read from their end
pub record AreParts (split : Halves) (word : List ℕ) (n : ℕ) : Type 0 where
  pub fits : n ≤ length word
  pub forward : IsSome (accepted split.forward (run split.forward 0 (take n word)))
  pub backward : IsSome (accepted split.backward (run split.backward 0 (reverse (drop n word))))

-- where a token's text ends in the word that is text and context of the rule: at its end for a rule
-- that has no split, else at the greatest place where both automata of its split accept their parts
pub data IsCut (splits : List Halves) (word : List ℕ) (i : ℕ) : ℕ → Type 0 where
  whole : split_of splits i ≡ None → IsCut splits word i (length word)
  parts : (split : Halves) (n : ℕ) → split_of splits i ≡ Some split → AreParts split word n
      → ((k : ℕ) → AreParts split word k → k ≤ n) → IsCut splits word i n

-- the state of the main automaton in which a start state begins
abbrev pub start_of : Tables → ℕ → ℕ
start_of tables state = slice_index tables.starts state

-- the runs of the tables give the winners of the rules: what the main automaton accepts last, cut by
-- the split, wins; where it accepts nothing there is no candidate
pub record GivesWinners (tables : Tables) (rules : List Rule) : Type 0 where
  pub winner : (state : ℕ) (text : List ℕ) (i m : ℕ) → state < length tables.starts → AreBytes text
      → IsLongestRun tables.main (start_of tables state) text i m
      → (n : ℕ) × IsCut tables.splits (take m text) i n × Winner rules state text i n m
  pub none : (state : ℕ) (text : List ℕ) → state < length tables.starts → AreBytes text
      → AcceptsNothing tables.main (start_of tables state) text → HasNoCandidate rules state text
  pub action : (state : ℕ) (text : List ℕ) (i n m : ℕ) → state < length tables.starts
      → (won : Winner rules state text i n m)
      → slice_get tables.actions i
      ≡ Some (record { token = won.candidate.rule.token; next = won.candidate.rule.next })
