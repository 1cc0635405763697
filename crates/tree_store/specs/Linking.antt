-- Links that are set one after the other. Only contracts within this crate cite it.
use Rattle.std.specs.Prelude.{◌≡◌, ℕ, ◌<◌, List, length, Some, slice_get, slice_index}

-- of the links of these nodes the first n were set to their values, and no others changed
pub record Linking (cs : List ℕ) (n : ℕ) (old new : List ℕ) (value : ℕ → ℕ) : Type 0 where
  pub size : length new ≡ length old
  pub set : (k c : ℕ) → k < n → slice_get cs k ≡ Some c → slice_index new c ≡ value k
  pub kept : (c : ℕ) → ((k : ℕ) → slice_get cs k ≡ Some c → ⊥) → slice_index new c ≡ slice_index old c
