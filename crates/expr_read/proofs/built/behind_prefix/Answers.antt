-- Each prefix makes its own expression.
use Rattle.expr_read.proofs.Sayings.{says-Negative, says-Negated}
use Rattle.expr_read.proofs.built.behind_prefix.Goals as goal
use Rattle.expr_read.proofs.built.behind_prefix.Goals.{in-Minus, in-Not}

pub returns-clause-says : goal.returns-clause-says
returns-clause-says c = elim c.match-prefix.branch [
  | in-Minus w ↦ rw (w.body-is, w.in-Minus.is, says-Negative, c.in_ok-inner.ensures)
  | in-Not w ↦ rw (w.body-is, w.in-Not.is, says-Negated, c.in_ok-inner.ensures)
]
