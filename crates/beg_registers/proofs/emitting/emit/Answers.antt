-- One text after the other.
use Rattle.std.proofs.Common.{arith}
use Rattle.beg_registers.specs.Code.{listed}
use Rattle.beg_registers.proofs.CodeFacts.{readable, one_text_more}
use Rattle.beg_registers.proofs.emitting.emit.Goals as goal

pub push_placed-requires-clause-readable : goal.push_placed-requires-clause-readable
push_placed-requires-clause-readable c =
    let (table, is) = c.requires.chosen in
    readable c.args.texts.now c.args.rules.now table c.args.tree.now c.args.list.now c.args.registers.now is c.requires.registers

pub loop-p-preserved : goal.loop-p-preserved
loop-p-preserved c =
    record {
      begun = c.in_ok-push_placed.ensures.begun;
      out = one_text_more (listed c.args.texts.now c.args.rules.now c.args.tree.now c.args.list.now c.args.registers.now) c.loop-p.p c.loop-p.out.items c.push_placed.new.out.items
          c.loop-p.invariant.out c.in_ok-push_placed.ensures.text;
    }

pub overflow_cast-p : goal.overflow_cast-p
overflow_cast-p c =
    let (table, is) = c.requires.chosen in
    let few = (readable c.args.texts.now c.args.rules.now table c.args.tree.now c.args.list.now c.args.registers.now is c.requires.registers).few in
    omega (arith, few, c.loop-p-test.true)
