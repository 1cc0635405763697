-- No nonterminal so far.
use Rattle.node_spec.proofs.AstUnknownLists.{NonePassed}
use Rattle.node_spec.proofs.only_nonterminal.next_place.Given as goal

abbrev pub invariant-loop-i : goal.invariant-loop-i
invariant-loop-i l = NonePassed l.right l.from l.i
