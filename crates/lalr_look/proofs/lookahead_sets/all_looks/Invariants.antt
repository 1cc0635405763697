use Rattle.lalr_look.specs.Promise.{sets_of}
use Rattle.lalr_look.proofs.NodesOf.{LooksSoFar}
use Rattle.lalr_look.proofs.lookahead_sets.all_looks.Given as goal

abbrev pub invariant-loop-core : goal.invariant-loop-core
invariant-loop-core l = LooksSoFar l.g l.cores l.nodes l.sets l.core (sets_of l.looks.items)
