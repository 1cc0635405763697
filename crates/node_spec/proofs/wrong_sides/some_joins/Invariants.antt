-- None of the rules so far joins families.
use Rattle.node_spec.proofs.JoinedFamilies.{NoneJoins}
use Rattle.node_spec.proofs.wrong_sides.some_joins.Given as goal

abbrev pub invariant-loop-r : goal.invariant-loop-r
invariant-loop-r l = NoneJoins l.labels l.built l.g.rules l.families l.r
