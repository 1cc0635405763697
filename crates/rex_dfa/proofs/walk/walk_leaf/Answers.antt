-- An expression without positions adds nothing.
use Rattle.std.proofs.Common.{arith}
use Rattle.ck_base.specs.BitSet.{Has}
use Rattle.rex_model.specs.Meaning.{meaning}
use Rattle.rex_dfa.proofs.WalkOfParts.{walked_nothing}
use Rattle.rex_dfa.proofs.walk.walk_leaf.Goals as goal

pub returns-then-k-end : goal.returns-then-k-end
returns-then-k-end c = walked_nothing (meaning c.args.r.now) c.args.end (Has c.args.after.now) c.args.rows.now
    (let same = c.if-k-end.true in omega (arith, same, c.positions.ensures, c.requires.fits, c.ranges.end.fits))
