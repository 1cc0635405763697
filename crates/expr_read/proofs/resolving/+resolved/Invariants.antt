use Rattle.expr_read.proofs.ResolvedParts.{ListSoFar}
use Rattle.expr_read.proofs.resolving.+resolved.Given as goal

abbrev pub invariant-resolved_list-loop-part : goal.invariant-resolved_list-loop-part
invariant-resolved_list-loop-part l = ListSoFar l.words l.initial.literals l.literals l.parts.items l.list l.part-index
