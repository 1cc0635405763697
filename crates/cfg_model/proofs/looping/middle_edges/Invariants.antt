-- The rules before the place have given their edges.
use Rattle.std.proofs.Common.{[]}
use Rattle.cfg_model.specs.within.Gather.{Gathers}
use Rattle.cfg_model.specs.within.Middles.{IsMiddleBefore}
use Rattle.cfg_model.proofs.looping.middle_edges.Given as goal

abbrev pub invariant-loop-i : goal.invariant-loop-i
invariant-loop-i l = Gathers [] l.edges.items (λ e. IsMiddleBefore l.fn.g l.null l.i e.from e.to)
