-- Each sign makes its own expression.
use Rattle.rex_model.proofs.Meanings.{meaning-Star, meaning-Plus, meaning-Opt}
use Rattle.front_spec.proofs.regexes.with_repeat.Goals as goal
use Rattle.front_spec.proofs.regexes.with_repeat.Goals.{in-Star, in-Plus, in-Opt}

pub returns : goal.returns
returns c = elim c.match-repeat.branch [
  | in-Star w ↦ rw (w.body-is, w.in-Star.is, meaning-Star, c.in_ok-part.ensures)
  | in-Plus w ↦ rw (w.body-is, w.in-Plus.is, meaning-Plus, c.in_ok-part.ensures)
  | in-Opt w ↦ rw (w.body-is, w.in-Opt.is, meaning-Opt, c.in_ok-part.ensures)
]
