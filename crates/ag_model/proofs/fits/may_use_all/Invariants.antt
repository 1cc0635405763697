-- Each place so far may be used.
use Rattle.std.proofs.Common.{ℕ, ◌<◌}
use Rattle.std.specs.Prelude.{slice_index_or}
use Rattle.ag_model.specs.declared.attribution.Place.{Place}
use Rattle.ag_model.specs.within.TypePlans.{MayUse}
use Rattle.ag_model.proofs.fits.may_use_all.Given as goal

abbrev pub invariant-loop-u : goal.invariant-loop-u
invariant-loop-u l = (k : ℕ) (d : Place) → k < l.u-index → MayUse l.p l.i (slice_index_or l.uses k d)
