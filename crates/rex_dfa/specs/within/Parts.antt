-- Automata of sets of positions, by what their positions take, what follows them and what comes first.
use Rattle.std.specs.Prelude.{◌≡◌, ℕ, ◌<◌, ◌≤◌, ◌↔◌, ◌⊎◌, List, length, Some, IsSome, slice_get, slice_index}
use Rattle.ck_base.specs.BitSet.{BitSet}
use Rattle.ck_base.specs.Counts.{HasMoreThan}
use Rattle.ck_base.specs.Represents.{Represents}
use Rattle.rex_model.specs.Sets.{ComesNext}
use Rattle.rex_dfa.specs.within.Marks.{IsLeast}
use Rattle.rex_dfa.specs.within.Positions.{ArePositions, TakesAt, FollowsAt}
use Rattle.rex_model.specs.Runs.{Automaton, nowhere, run, accepted, AreBytes, IsStateOf}
use Rattle.rex_dfa.specs.within.Subset.{FirstAt, Way, IsWay, IsSameSet}
use Rattle.rex_model.specs.Tables.{IsDfa}
use Rattle.rex_dfa.specs.declared.positions.Positions.{Positions}

-- the table has these positions
pub record ArePositionsBy (takes follow : ℕ → ℕ → Type 0) (size : ℕ) (positions : Positions) : Type 0 where
  pub positions_are : ArePositions positions
  pub has_size : positions.size ≡ size
  pub takes_is : (p b : ℕ) → b < 256 → TakesAt positions p b ↔ takes p b
  pub follow_is : (p q : ℕ) → FollowsAt positions p q ↔ follow p q

-- the automaton of the sets: after a word it accepts the least mark that comes next, and there is a
-- state for each set
pub record IsTable (positions : Positions) (firsts : List BitSet) (marks starts : List ℕ) (dfa : Automaton) : Type 0 where
  pub is_dfa : IsDfa dfa
  pub few : length dfa.accepts ≤ 4096
  pub starts_count : length starts ≡ length firsts
  pub inside : (k : ℕ) → k < length firsts → IsStateOf dfa (slice_index starts k)
  pub zero_first : 0 < length firsts → (slice_index starts 0 ≡ nowhere) ⊎ (slice_index starts 0 ≡ 0)
  pub least : (k : ℕ) (w : List ℕ) → k < length firsts → AreBytes w
      → IsLeast (λ i. (q : ℕ) × (slice_get marks i ≡ Some q) × ComesNext (TakesAt positions) (FollowsAt positions) (FirstAt firsts k) w q)
      (accepted dfa (run dfa (slice_index starts k) w))
  pub marked : (s i : ℕ) → slice_get dfa.accepts s ≡ Some (Some i) → i < length marks
  pub ways : List Way
  pub represent : Represents (IsWay positions firsts) (IsSameSet positions firsts) ways
  pub as_many : length ways ≡ length dfa.accepts

-- the word is one of bytes, after which some position can come next
pub record IsFilled (takes follow : ℕ → ℕ → Type 0) (first : ℕ → Type 0) (w : List ℕ) : Type 0 where
  pub bytes : AreBytes w
  pub some : ((q : ℕ) → ComesNext takes follow first w q → ⊥) → ⊥

-- after both words the same positions can come next
abbrev pub IsSameAfter : (takes follow : ℕ → ℕ → Type 0) → (first : ℕ → Type 0) → List ℕ → List ℕ → Type 0
IsSameAfter takes follow first u v = (q : ℕ) → ComesNext takes follow first u q ↔ ComesNext takes follow first v q

-- there are more than so many sets
abbrev pub HasMoreOf : (takes follow : ℕ → ℕ → Type 0) → (first : ℕ → Type 0) → ℕ → Type 0
HasMoreOf takes follow first n = HasMoreThan (IsFilled takes follow first) (IsSameAfter takes follow first) n

-- an automaton of a split accepts the words after which the mark comes next, and so many sets there are
pub record IsPart (takes follow : ℕ → ℕ → Type 0) (first : ℕ → Type 0) (mark : ℕ) (dfa : Automaton) (count : ℕ) : Type 0 where
  pub is_dfa : IsDfa dfa
  pub begins : 0 < length dfa.accepts
  pub accepts : (w : List ℕ) → AreBytes w → IsSome (accepted dfa (run dfa 0 w)) ↔ ComesNext takes follow first w mark
  pub words : List (List ℕ)
  pub represent : Represents (IsFilled takes follow first) (IsSameAfter takes follow first) words
  pub as_many : length words ≡ count
  pub few : count ≤ 4096
