-- The column of the rows, and the end mark.
use Rattle.std.proofs.Common.{arith}
use Rattle.rex_model.specs.Meaning.{meaning}
use Rattle.rex_dfa.proofs.WalkOfRules.{is_turned}
use Rattle.rex_dfa.proofs.part_rows.turned.Goals as goal

pub returns-clause-has : goal.returns-clause-has
returns-clause-has c = is_turned (meaning c.args.r.now) c.args.size c.positions.result c.args.p c.args.follows.now c.in_ok-set.set c.add_befores.new.to c.add_if.new.to c.args.first.now c.has.result
    c.requires.follows c.requires.first c.in_ok-set.ensures.empty c.add_befores.ensures c.has.ensures c.add_if.ensures (omega (arith, c.positions.ensures, c.requires.room, c.ranges.size))
