-- No nonterminal so far lacks a family.
use Rattle.node_spec.proofs.AstUnknownHead.{FamiliesBefore}
use Rattle.node_spec.proofs.unknown_head.one_lacks_family.Given as goal

abbrev pub invariant-loop-n : goal.invariant-loop-n
invariant-loop-n l = FamiliesBefore l.nonterminals l.lines l.families.names l.families.targets.items l.n
