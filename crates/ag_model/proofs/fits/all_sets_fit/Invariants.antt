-- The sets of each family so far fit.
use Rattle.std.proofs.Common.{ℕ, ◌<◌}
use Rattle.ag_model.specs.Attribution.{grammar_of, kinds_of}
use Rattle.ag_model.specs.Plans.{SetsFit, sets_of}
use Rattle.ag_model.proofs.fits.all_sets_fit.Given as goal

abbrev pub invariant-loop-x : goal.invariant-loop-x
invariant-loop-x l = (x : ℕ) → x < l.x → SetsFit (kinds_of (grammar_of l.types l.a) x) (sets_of l.plan x)
