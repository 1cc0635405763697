-- Each register remembers its last value, and the values so far have their registers.
use Rattle.beg_model.specs.Items.{items}
use Rattle.beg_registers.proofs.PassSoFar.{PassSoFar}
use Rattle.beg_registers.proofs.assigning.assign_class.Given as goal

abbrev pub invariant-loop-p : goal.invariant-loop-p
invariant-loop-p l = PassSoFar (items l.rules l.list) l.uses l.class l.initial.until l.initial.registers l.until l.registers l.p
