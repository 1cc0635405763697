-- The counts and the need of the values so far.
use Rattle.beg_model.specs.Items.{items}
use Rattle.beg_registers.proofs.NeedSoFar.{SoFar}
use Rattle.beg_registers.proofs.need.need_of.Given as goal

abbrev pub invariant-loop-p : goal.invariant-loop-p
invariant-loop-p l = SoFar (items l.rules l.list) l.uses l.class l.live l.need l.ends l.p
