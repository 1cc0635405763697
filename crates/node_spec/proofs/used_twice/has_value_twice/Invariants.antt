-- The places that the numbers so far have marked.
use Rattle.node_spec.proofs.AstTwiceUses.{UsesSoFar}
use Rattle.node_spec.proofs.used_twice.has_value_twice.Given as goal

abbrev pub invariant-loop-number : goal.invariant-loop-number
invariant-loop-number l = UsesSoFar l.right l.numbers l.number-index l.used
