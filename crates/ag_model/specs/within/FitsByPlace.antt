-- Whether the sets of a family fit, place by place.
use Rattle.std.specs.Prelude.{◌≡◌, ℕ, suc, ◌<◌, Bool, List, [], length, Some, slice_get, slice_index_or, Contains}
use Rattle.ag_model.specs.Parts.{is_odd}

-- the attribute at place i of entry k is of the part's kind, and stands at no place before
pub record PlaceFits (kinds : List Bool) (sets : List (List ℕ)) (k i a : ℕ) : Type 0 where
  pub kind : slice_get kinds a ≡ Some (is_odd (suc k))
  pub no_set_before : (l : ℕ) → l < k → Contains (slice_index_or sets l []) a → ⊥
  pub no_place_before : (j : ℕ) → j < i → slice_get (slice_index_or sets k []) j ≡ Some a → ⊥

-- some set before entry `end` has the attribute
abbrev pub IsInSome : List (List ℕ) → ℕ → ℕ → Type 0
IsInSome sets end a = (l : ℕ) × (l < end) × Contains (slice_index_or sets l []) a

-- each place of entry k fits
abbrev pub PartFits : List Bool → List (List ℕ) → ℕ → Type 0
PartFits kinds sets k = (i a : ℕ) → slice_get (slice_index_or sets k []) i ≡ Some a → PlaceFits kinds sets k i a

-- the sets of a family fit: what `SetsFit` asks, place by place
pub record FitsByPlace (kinds : List Bool) (sets : List (List ℕ)) : Type 0 where
  pub each : (a : ℕ) → a < length kinds → IsInSome sets (length sets) a
  pub parts : (k : ℕ) → k < length sets → PartFits kinds sets k
