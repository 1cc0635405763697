use Rattle.std.proofs.Common.{arith, ◌*◌}
use Rattle.rex_dfa.proofs.Joining.{join_ended}
use Rattle.rex_dfa.proofs.positions.Positions.next.Goals as goal

pub returns-clause-next : goal.returns-clause-next
returns-clause-next c =
    let count = c.requires.fit.count in
    join_ended c.args.self.now c.args.from.now c.args.byte (64 * c.loop-w.w) c.loop-w.to (omega arith) c.loop-w.invariant
