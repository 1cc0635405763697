-- The texts of the first instances are written.
use Rattle.std.proofs.Common.{◌≡◌, []}
use Rattle.beg_registers.specs.Code.{listed, code_to}
use Rattle.beg_registers.proofs.emitting.emit.Given as goal

abbrev pub invariant-loop-p : goal.invariant-loop-p
invariant-loop-p l = record {
  begun : l.begun.items ≡ [];
  out : l.out.items ≡ code_to (listed l.texts l.rules l.tree l.list l.registers) l.p;
}
