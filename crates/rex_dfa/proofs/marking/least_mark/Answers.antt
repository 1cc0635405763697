use Rattle.std.proofs.Common.{arith}
use Rattle.rex_dfa.proofs.MarksOfRules.{none_more, least_here, least_none}
use Rattle.rex_dfa.proofs.marking.least_mark.Goals as goal

pub returns-then-has : goal.returns-then-has
returns-then-has c = least_here c.args.marks.now (record { size = c.args.size; words = c.args.words.now }) c.loop-i.i (omega arith) c.loop-i.invariant (c.has.ensures.0 c.if-has.true)

pub loop-i-preserved : goal.loop-i-preserved
loop-i-preserved c = none_more c.args.marks.now (record { size = c.args.size; words = c.args.words.now }) c.loop-i.i (omega arith) c.loop-i.invariant
    (λ here. let says = c.has.ensures.1 here in cc)

pub returns : goal.returns
returns c = least_none c.args.marks.now (record { size = c.args.size; words = c.args.words.now }) c.loop-i.i (omega arith) c.loop-i.invariant
