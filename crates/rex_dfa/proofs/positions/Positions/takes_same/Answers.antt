-- Words that are the same say that the same positions take both bytes.
use Rattle.std.proofs.Common.{arith}
use Rattle.rex_dfa.proofs.Joining.{same_taken}
use Rattle.rex_dfa.proofs.positions.Positions.takes_same.Goals as goal

pub returns : goal.returns
returns c = λ yes. same_taken c.args.self.now c.args.from.now c.takers_of-first.result.now c.takers_of-second.result.now c.args.a c.args.b c.requires.fit
    c.takers_of-first.ensures c.takers_of-second.ensures (λ w within. c.loop-w.invariant w (omega arith))
