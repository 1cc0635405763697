-- What was written and what is left of begun texts is the whole text.
use Rattle.std.proofs.Common.{◌≡◌, ◌++◌, reverse}
use Rattle.beg_registers.specs.Code.{listed, text_at}
use Rattle.beg_registers.specs.within.Begun.{AreBegun, left_of}
use Rattle.beg_registers.proofs.emitting.push_text.Given as goal

abbrev pub invariant-loop-turn : goal.invariant-loop-turn
invariant-loop-turn l = record {
  begun : AreBegun (listed l.texts l.rules l.tree l.list l.registers) (reverse l.begun.items);
  left : l.out.items ++ left_of (listed l.texts l.rules l.tree l.list l.registers) (reverse l.begun.items)
      ≡ l.initial.out.items ++ text_at (listed l.texts l.rules l.tree l.list l.registers) l.p;
}
