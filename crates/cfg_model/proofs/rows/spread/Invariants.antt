-- The rounds so far; each lets the rows lack fewer numbers.
use Rattle.std.proofs.Common.{◌≡◌}
use Rattle.ck_base.specs.BitSet.{IsEmpty}
use Rattle.cfg_model.specs.Rows.{AreRows}
use Rattle.cfg_model.specs.within.Spreading.{room, IsMarked}
use Rattle.cfg_model.proofs.Joining.{Spreading}
use Rattle.cfg_model.proofs.rows.spread.Given as goal

abbrev pub invariant-rounds : goal.invariant-rounds
invariant-rounds l = record {
  so_far : Spreading l.edges l.fn.rows.items l.rows.items;
  rows : AreRows l.count l.width l.rows.items;
  scratch : l.scratch.size ≡ l.width;
  before : l.before.size ≡ l.count;
  grown : l.grown.size ≡ l.count;
  empty : IsEmpty l.grown;
  marked : IsMarked l.edges l.rows.items l.before;
}

abbrev pub decreases-rounds : goal.decreases-rounds
decreases-rounds l = room l.rows.items
