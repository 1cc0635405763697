-- Names with numbers: a list of byte strings without doubles, in which a name's number is its place. Sets with
-- numbers are the same, by their words.
use Rattle.std.specs.Prelude.{◌≡◌, ℕ, ◌^◌, ◌<◌, List, [], ◌∷◌, ◌++◌, length, map, if◌then◌else◌, Vec, Option, Some, is_some, slice_get}
use Rattle.std.specs.List.{position}
use Rattle.std.specs.Str.{bytes_eq}
use Rattle.std.specs.Global.{Global}

-- the byte strings of vectors
abbrev pub texts : List (Vec ℕ Global) → List (List ℕ)
texts vectors = map (λ vector. vector.items) vectors

-- no name is there twice
abbrev pub AreApart : List (List ℕ) → Type 0
AreApart names =
    (i j : ℕ) (name : List ℕ) → slice_get names i ≡ Some name → slice_get names j ≡ Some name → i ≡ j

-- there is a number for each name, and none is there twice
pub record AreNumbered (names : List (List ℕ)) : Type 0 where
  pub few : length names < 2 ^ 32
  pub apart : AreApart names

-- a name's number, its first place in the list; None where it isn't there
abbrev pub number_of : List (List ℕ) → List ℕ → Option ℕ
number_of names name = position (bytes_eq name) names

-- names in the order in which they are first met: those of the list before, then each new one at the end
abbrev pub met : List (List ℕ) → List (List ℕ) → List (List ℕ)
met names [] = names
met names (name ∷ more) = met (if is_some (number_of names name) then names else names ++ name ∷ []) more
