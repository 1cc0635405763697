use Rattle.std.proofs.Common.{◌-◌, ◌≤◌}
use Rattle.rex_model.specs.Place.{IsPlace}
use Rattle.rex_model.proofs.place.Place.go_to.Given as goal

abbrev pub invariant-loop-place : goal.invariant-loop-place
invariant-loop-place l = (l.place.at ≤ l.to) × IsPlace l.text l.place

abbrev pub decreases-loop-place : goal.decreases-loop-place
decreases-loop-place l = l.to - l.place.at
