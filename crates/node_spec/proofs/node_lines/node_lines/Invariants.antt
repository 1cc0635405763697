-- The NODE lines so far.
use Rattle.std.proofs.Common.{map}
use Rattle.node_spec.specs.within.AstSeen.{declared_by}
use Rattle.node_spec.proofs.AstFamilies.{NodesSoFar}
use Rattle.node_spec.proofs.node_lines.node_lines.Given as goal

abbrev pub invariant-loop-line : goal.invariant-loop-line
invariant-loop-line l =
    NodesSoFar l.families.names (map declared_by l.list) l.line-index l.nonterminals l.numbers.items
