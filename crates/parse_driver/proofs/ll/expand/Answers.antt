-- Before the first turn.
use Rattle.parse_driver.proofs.Opening.{none_since}
use Rattle.parse_driver.specs.within.LlStack.{entries}
use Rattle.parse_driver.proofs.ll.expand.Goals as goal

pub turns-init : goal.turns-init
turns-init g c = (
  record { reached = c.requires.reached; state = λ read state. state; follows = λ read state follows. follows },
  none_since (g.T.LlTable.grammar c.args.table.now) (entries c.args.stack.now),
)
