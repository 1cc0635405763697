use Rattle.std.proofs.Common.{refl}
use Rattle.rex_dfa.proofs.PositionsOfRows.{positions_are}
use Rattle.rex_dfa.proofs.part_rows.positions_with.Goals as goal

pub returns-clause-are : goal.returns-clause-are
returns-clause-are c = positions_are _ c.args.size refl c.requires.few c.requires.takers c.requires.taker_sizes c.requires.follows c.requires.follow_sizes (rw c.as_slice.ensures.value at c.in_ok-alike.ensures)
