-- Sets of positions as the states of an automaton.
use Rattle.std.specs.Prelude.{◌≡◌, ℕ, ◌+◌, ◌*◌, ◌^◌, ◌<◌, ◌≤◌, ◌↔◌, ◌⊎◌, List, [], ◌∷◌, ◌++◌, length, get_or, slice_get, slice_index, Option, Some, None, All}
use Rattle.ck_base.specs.BitSet.{BitSet, Has}
use Rattle.ck_base.specs.Counts.{HasMoreThan}
use Rattle.ck_base.specs.Words.{IsFit}
use Rattle.rex_model.specs.Sets.{ComesNext}
use Rattle.rex_dfa.specs.within.Positions.{HasAt, set_with, TakesAt, FollowsAt, NextOf}
use Rattle.rex_model.specs.Runs.{nowhere, AreBytes}
use Rattle.rex_dfa.specs.declared.positions.Positions.{Positions}

-- q comes directly after a position of the set that takes the byte
abbrev pub Next : (takes follow : ℕ → ℕ → Type 0) → (P : ℕ → Type 0) → ℕ → ℕ → Type 0
Next takes follow P byte q = (p : ℕ) × P p × takes p byte × follow p q

-- the number stands for the set: no state for the empty set, else a state that has it
pub data Stands (set : ℕ → ℕ → Type 0) (count : ℕ) (P : ℕ → Type 0) : ℕ → Type 0 where
  for_none : (s : ℕ) → s ≡ nowhere → ((q : ℕ) → P q → ⊥) → Stands set count P s
  for_state : (s : ℕ) → s < count → ((q : ℕ) → set s q ↔ P q) → Stands set count P s

-- the positions of state s
abbrev pub set_at : Positions → List (List ℕ) → ℕ → ℕ → Type 0
set_at positions sets s p = Has (set_with positions (get_or sets s [])) p

-- position p is in the first set of start state k
abbrev pub FirstAt : List BitSet → ℕ → ℕ → Type 0
FirstAt firsts k p = HasAt firsts k p

-- the set is what comes next after some word from some start state
pub record IsReached (positions : Positions) (firsts : List BitSet) (P : ℕ → Type 0) : Type 0 where
  pub start : ℕ
  pub word : List ℕ
  pub inside : start < length firsts
  pub small : AreBytes word
  pub comes : (q : ℕ) → P q ↔ ComesNext (TakesAt positions) (FollowsAt positions) (FirstAt firsts start) word q

-- each set is reached and has a position
pub record AreReached (positions : Positions) (firsts : List BitSet) (sets : List (List ℕ)) : Type 0 where
  pub fit : (s : ℕ) → s < length sets → IsFit positions.size (get_or sets s [])
  pub small : (s : ℕ) → s < length sets → All (λ word. word < 2 ^ 64) (get_or sets s [])
  pub filled : (s : ℕ) → s < length sets → ((q : ℕ) → set_at positions sets s q → ⊥) → ⊥
  pub reached : (s : ℕ) → s < length sets → IsReached positions firsts (set_at positions sets s)

-- each move so far goes to the state of the set that comes next, or to none where that is empty
pub record Building (positions : Positions) (firsts : List BitSet) (sets : List (List ℕ)) (moves : List ℕ) : Type 0 where
  pub sets_reached : AreReached positions firsts sets
  pub few : length sets ≤ 4096
  pub goes : (s byte : ℕ) → byte < 256 → 256 * s + byte < length moves
      → Stands (set_at positions sets) (length sets) (NextOf positions (get_or sets s []) byte) (slice_index moves (256 * s + byte))

-- the move of state s over the byte is in the list
abbrev pub IsKnownMove : Positions → List (List ℕ) → List ℕ → ℕ → ℕ → Type 0
IsKnownMove positions sets moves s byte =
    Stands (set_at positions sets) (length sets) (NextOf positions (get_or sets s []) byte) (slice_index moves (256 * s + byte))

-- the number of a set: none for the empty set, an old state that has it, or the next one; None
-- where it would be the state numbered 4,096
pub data Numbers (positions : Positions) (old new : List (List ℕ)) (P : ℕ → Type 0) : Option ℕ → Type 0 where
  empty : new ≡ old → ((q : ℕ) → P q → ⊥) → Numbers positions old new P (Some nowhere)
  known : (words : List ℕ) (t : ℕ) → new ≡ old → slice_get old t ≡ Some words → ((q : ℕ) → Has (set_with positions words) q ↔ P q)
      → Numbers positions old new P (Some t)
  added : (words : List ℕ) (t : ℕ) → new ≡ old ++ words ∷ [] → t ≡ length old → t < 4096 → IsFit positions.size words → All (λ word. word < 2 ^ 64) words
      → (((q : ℕ) → P q → ⊥) → ⊥) → ((q : ℕ) → Has (set_with positions words) q ↔ P q) → Numbers positions old new P (Some t)
  full : (words : List ℕ) → new ≡ old ++ words ∷ [] → 4096 ≤ length old → IsFit positions.size words → All (λ word. word < 2 ^ 64) words
      → (((q : ℕ) → P q → ⊥) → ⊥) → ((q : ℕ) → Has (set_with positions words) q ↔ P q) → Numbers positions old new P None

-- a start state and a word
pub record Way : Type 0 where
  pub start : ℕ
  pub word : List ℕ

-- position q can come next on the way
abbrev pub SetAfter : Positions → List BitSet → Way → ℕ → Type 0
SetAfter positions firsts way q = ComesNext (TakesAt positions) (FollowsAt positions) (FirstAt firsts way.start) way.word q

-- the way is one of bytes from a start state, and some position can come next
pub record IsWay (positions : Positions) (firsts : List BitSet) (way : Way) : Type 0 where
  pub inside : way.start < length firsts
  pub bytes : AreBytes way.word
  pub filled : ((q : ℕ) → SetAfter positions firsts way q → ⊥) → ⊥

-- the same positions can come next
abbrev pub IsSameSet : Positions → List BitSet → Way → Way → Type 0
IsSameSet positions firsts a b = (q : ℕ) → SetAfter positions firsts a q ↔ SetAfter positions firsts b q

-- there are more than so many distinct sets that aren't empty
abbrev pub HasMoreSets : Positions → List BitSet → ℕ → Type 0
HasMoreSets positions firsts n = HasMoreThan (IsWay positions firsts) (IsSameSet positions firsts) n

-- the first k start states begin in the states of their first sets
pub record AreStarts (positions : Positions) (firsts : List BitSet) (sets : List (List ℕ)) (starts : List ℕ) (k : ℕ) : Type 0 where
  pub sets_reached : AreReached positions firsts sets
  pub few : length sets ≤ 4096
  pub count : length starts ≡ k
  pub begins : (i : ℕ) → i < k → Stands (set_at positions sets) (length sets) (FirstAt firsts i) (slice_index starts i)
  pub none_yet : k ≡ 0 → sets ≡ []
  pub zero_first : 0 < k → (slice_index starts 0 ≡ nowhere) ⊎ (slice_index starts 0 ≡ 0)

-- the old sets keep their numbers
pub record IsGrown (old new : List (List ℕ)) : Type 0 where
  pub longer : length old ≤ length new
  pub kept : (s : ℕ) → s < length old → get_or new s [] ≡ get_or old s []
