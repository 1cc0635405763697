-- Each place so far fits.
use Rattle.std.proofs.Common.{◌≡◌, ℕ, ◌<◌, [], Some}
use Rattle.std.specs.Prelude.{slice_get, slice_index_or}
use Rattle.ag_model.specs.Plans.{lists}
use Rattle.ag_model.specs.Attribution.{kinds_in}
use Rattle.ag_model.specs.within.FitsByPlace.{PlaceFits}
use Rattle.ag_model.proofs.sets.part_fits.Given as goal

abbrev pub invariant-loop-i : goal.invariant-loop-i
invariant-loop-i l = (i a : ℕ) → i < l.i → slice_get (slice_index_or (lists l.sets) l.k []) i ≡ Some a → PlaceFits (kinds_in l.attributes) (lists l.sets) l.k i a
