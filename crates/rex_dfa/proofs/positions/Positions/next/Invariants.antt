use Rattle.std.proofs.Common.{◌*◌}
use Rattle.rex_dfa.specs.within.Positions.{Joining}
use Rattle.rex_dfa.proofs.positions.Positions.next.Given as goal

abbrev pub invariant-loop-w : goal.invariant-loop-w
invariant-loop-w l = Joining l.self l.from l.byte (64 * l.w) l.to
