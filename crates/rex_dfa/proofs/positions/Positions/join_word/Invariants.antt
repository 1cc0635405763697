use Rattle.std.proofs.Common.{◌*◌, ◌+◌}
use Rattle.rex_dfa.specs.within.Positions.{Joining}
use Rattle.rex_dfa.proofs.positions.Positions.join_word.Given as goal

abbrev pub invariant-loop-bit : goal.invariant-loop-bit
invariant-loop-bit l = Joining l.self l.from l.byte (64 * l.w + l.bit) l.to
