use Rattle.tree_store.specs.Forest.{node_at}
use Rattle.tree_lines.proofs.FieldsSoFar.{FieldsSoFar}
use Rattle.tree_lines.proofs.line.push_fields.Given as goal

abbrev pub invariant-loop-item : goal.invariant-loop-item
invariant-loop-item l = FieldsSoFar l.texts.source.now l.texts.literals.now l.items (node_at l.tree l.node).fields l.item-index l.i l.count
    l.initial.out.items l.out.items
