-- As long as the set hasn't grown, no rule before the place adds to it.
use Rattle.cfg_model.proofs.Round.{Rounding}
use Rattle.cfg_model.proofs.closing.add_round.Given as goal

abbrev pub invariant-loop-i : goal.invariant-loop-i
invariant-loop-i l = Rounding l.words l.fn.g l.i l.fn.set l.set l.grew
