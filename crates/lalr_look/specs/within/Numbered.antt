-- Values with numbers: a list without doubles, in which a value's number is its place.
use Rattle.std.specs.Prelude.{◌≡◌, ℕ, ◌^◌, ◌<◌, List, [], ◌∷◌, ◌++◌, length, Some, Contains, slice_get}

-- no value is there twice
abbrev pub AreApart : {X : Type 0} → List X → Type 0
AreApart {X} xs = (i j : ℕ) (x : X) → slice_get xs i ≡ Some x → slice_get xs j ≡ Some x → i ≡ j

-- there is a number for each value, and none is there twice
pub record AreNumbered {X : Type 0} (xs : List X) : Type 0 where
  pub few : length xs < 2 ^ 32
  pub apart : AreApart xs

-- a value is numbered: the old number where it is there, else the next
pub data Interns {X : Type 0} (old new : List X) (x : X) (n : ℕ) : Type 0 where
  known : new ≡ old → slice_get old n ≡ Some x → Interns old new x n
  added : (Contains old x → ⊥) → new ≡ old ++ (x ∷ []) → n ≡ length old → Interns old new x n
