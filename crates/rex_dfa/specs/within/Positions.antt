-- Positions with the bytes that they take and the positions that come directly after them.
use Rattle.std.specs.Prelude.{◌≡◌, ℕ, ◌<◌, ◌≤◌, ◌↔◌, List, length, slice_get, slice_index, Some, All}
use Rattle.ck_base.specs.BitSet.{BitSet, Has}
use Rattle.ck_base.specs.Words.{IsFit}
use Rattle.rex_dfa.specs.declared.positions.Positions.{Positions}

-- the set with this number is there, and p is in it
abbrev pub HasAt : List BitSet → ℕ → ℕ → Type 0
HasAt sets i p = (set : BitSet) × (slice_get sets i ≡ Some set) × Has set p

-- position p takes the byte
abbrev pub TakesAt : Positions → ℕ → ℕ → Type 0
TakesAt positions p byte = HasAt positions.takers.items byte p

-- position q comes directly after p
abbrev pub FollowsAt : Positions → ℕ → ℕ → Type 0
FollowsAt positions p q = HasAt positions.follows.items p q

-- each byte has a set of positions that take it, and each position one of those that follow
pub record ArePositions (positions : Positions) : Type 0 where
  pub few : positions.size ≤ 4096
  pub takers : length positions.takers.items ≡ 256
  pub taker_sizes : All (λ set. set.size ≡ positions.size) positions.takers.items
  pub alike_count : length positions.alike.items ≡ 256
  pub alike : (byte : ℕ) → byte < 256 → slice_index positions.alike.items byte ≤ byte
  pub same : (byte p : ℕ) → byte < 256 → TakesAt positions p (slice_index positions.alike.items byte) ↔ TakesAt positions p byte
  pub follows : length positions.follows.items ≡ positions.size
  pub sizes : All (λ set. set.size ≡ positions.size) positions.follows.items

-- the set of positions with these words
abbrev pub set_with : Positions → List ℕ → BitSet
set_with positions words = record { size = positions.size; words = words }

-- position q comes after the byte was taken at some position of the set
abbrev pub NextOf : Positions → List ℕ → ℕ → ℕ → Type 0
NextOf positions words byte q = (p : ℕ) × Has (set_with positions words) p × TakesAt positions p byte × FollowsAt positions p q

-- the words are those of the positions that take the byte
pub record AreTakers (positions : Positions) (byte : ℕ) (words : List ℕ) : Type 0 where
  pub fit : IsFit positions.size words
  pub are : (p : ℕ) → Has (set_with positions words) p ↔ TakesAt positions p byte

-- position q comes after the byte at one of the first i positions
abbrev pub NextUpTo : Positions → List ℕ → ℕ → ℕ → ℕ → Type 0
NextUpTo positions words byte i q =
    (p : ℕ) × (p < i) × Has (set_with positions words) p × TakesAt positions p byte × FollowsAt positions p q

-- the set of those positions
pub record Joining (positions : Positions) (words : List ℕ) (byte i : ℕ) (to : BitSet) : Type 0 where
  pub size : to.size ≡ positions.size
  pub has : (q : ℕ) → Has to q ↔ NextUpTo positions words byte i q

-- of the set's positions the same take both bytes
abbrev pub IsSameTaken : Positions → List ℕ → ℕ → ℕ → Type 0
IsSameTaken positions words a b =
    (p : ℕ) → Has (set_with positions words) p → TakesAt positions p a ↔ TakesAt positions p b
