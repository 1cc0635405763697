-- The first places of names, as a program keeps them. Only contracts within the crate cite this.
use Rattle.std.specs.Prelude.{◌≡◌, ℕ, ◌≤◌, List, length, option_map, slice_index}
use Rattle.ck_base.specs.Numbered.{number_of}
use Rattle.node_model.specs.declared.first_places.FirstPlaces.{FirstPlaces}

-- each name has a place, and the place of a name is its first one among all of them
pub record AreFirst (all : List (List ℕ)) (kept : FirstPlaces) : Type 0 where
  pub each : length kept.places.items ≡ length kept.names
  pub few : length kept.names ≤ length all
  pub first : (name : List ℕ) → option_map (slice_index kept.places.items) (number_of kept.names name) ≡ number_of all name
