-- What makes the types so far.
use Rattle.node_model.specs.within.MakersSoFar.{MakersSoFar}
use Rattle.node_model.proofs.makers.makers_of.Given as goal

abbrev pub invariant-loop-t : goal.invariant-loop-t
invariant-loop-t l = MakersSoFar l.types l.target l.t l.made
