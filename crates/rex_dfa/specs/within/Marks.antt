-- End marks, and the least rule whose mark is in a set.
use Rattle.std.specs.Prelude.{◌≡◌, ℕ, zero, suc, ◌+◌, ◌<◌, ◌≤◌, List, [], ◌∷◌, length, get_or, Option, Some, None, slice_get}
use Rattle.ck_base.specs.BitSet.{BitSet, Has}
use Rattle.rex_model.specs.Positions.{position_count}
use Rattle.rex_model.specs.Sets.{marked, body_and_context}
use Rattle.rex_model.specs.Rules.{Rule}

-- the numbers are the end marks of the rules, whose positions are numbered from k on
abbrev pub AreMarks : List Rule → ℕ → List ℕ → Type 0
AreMarks [] k [] = Unit
AreMarks [] k (m ∷ ms) = ⊥
AreMarks (rule ∷ rules) k [] = ⊥
AreMarks (rule ∷ rules) k (m ∷ ms) =
    (m ≡ k + position_count (body_and_context rule)) × AreMarks rules (k + position_count (marked (body_and_context rule))) ms

-- position p is the end mark of rule i, where the rules' positions are numbered from k on
abbrev pub IsMark : List Rule → ℕ → ℕ → ℕ → Type 0
IsMark [] k i p = ⊥
IsMark (rule ∷ rules) k zero p = p ≡ k + position_count (body_and_context rule)
IsMark (rule ∷ rules) k (suc i) p = IsMark rules (k + position_count (marked (body_and_context rule))) i p

-- the least number of which P holds; None where it holds of none
abbrev pub IsLeast : (ℕ → Type 0) → Option ℕ → Type 0
IsLeast P None = (i : ℕ) → P i → ⊥
IsLeast P (Some i) = P i × ((j : ℕ) → P j → i ≤ j)

-- mark i is in the set
abbrev pub HasMark : List ℕ → BitSet → ℕ → Type 0
HasMark marks set i = (q : ℕ) × (slice_get marks i ≡ Some q) × Has set q

-- each of the first n sets with its least mark
pub record MarksSets (marks : List ℕ) (size : ℕ) (sets : List (List ℕ)) (accepts : List (Option ℕ)) (n : ℕ) : Type 0 where
  pub count : length accepts ≡ n
  pub least : (s : ℕ) → s < n → IsLeast (HasMark marks (record { size = size; words = get_or sets s [] })) (get_or accepts s None)
