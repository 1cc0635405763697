-- The rules before the place have given their edges.
use Rattle.std.proofs.Common.{[]}
use Rattle.cfg_model.specs.within.Gather.{Gathers, IsDownBefore}
use Rattle.cfg_model.proofs.reach.down_edges.Given as goal

abbrev pub invariant-loop-i : goal.invariant-loop-i
invariant-loop-i l = Gathers [] l.edges.items (IsDownBefore l.fn.g l.i)
