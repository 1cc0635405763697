-- The moves to this byte and those behind it may be missing.
use Rattle.rex_model.proofs.StepOfString.{SteppingString}
use Rattle.rex_model.proofs.sets.step_string.Given as goal

abbrev pub invariant-loop-next : goal.invariant-loop-next
invariant-loop-next l = SteppingString l.string l.k l.from l.byte l.next l.initial.to l.to
