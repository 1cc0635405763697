-- The rules before the place have given theirs.
use Rattle.std.proofs.Common.{◌≡◌}
use Rattle.cfg_model.specs.Rows.{AreRows}
use Rattle.cfg_model.proofs.Trailing.{BehindSoFar}
use Rattle.cfg_model.proofs.follow_sets.add_rules.Given as goal

abbrev pub invariant-loop-i : goal.invariant-loop-i
invariant-loop-i l = record {
  are : AreRows l.count l.width l.rows.items;
  size : l.trailer.size ≡ l.width;
  so_far : BehindSoFar l.fn.g l.firsts l.null l.reach l.i l.fn.rows.items l.rows.items l.edges.items;
}
