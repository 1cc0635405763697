-- What stands among the first tokens, with one of them behind it, stands among all of them.
use Rattle.std.proofs.Common.{◌+◌, arith}
use Rattle.expr_read.specs.Writing.{spoken_of}
use Rattle.expr_read.proofs.AtPlace.{front_there, placed_longer}
use Rattle.expr_read.proofs.at_place.written_at.Goals as goal

pub written_within-requires-clause-spelled : goal.written_within-requires-clause-spelled
written_within-requires-clause-spelled c =
    front_there c.args.spec.now c.args.tokens.now (c.args.at + c.loop-count.count) c.requires.spelled

pub returns-then-next-end : goal.returns-then-next-end
returns-then-next-end c =
    let more = c.loop-count-test.true in
    placed_longer c.args.spec.now c.args.tokens.now (c.args.at + c.loop-count.count) c.args.at c.in-Some.next
    (spoken_of c.in-Some.written) (rw c.in-Some.is at c.in_ok-written.ensures) c.if-next-end.true (omega (arith, more))
