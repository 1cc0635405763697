-- The end of the right side has given what stands behind its nonterminals.
use Rattle.std.proofs.Common.{◌≡◌, ◌≤◌, ◌↔◌, ℕ, IsTrue, false, drop, length}
use Rattle.ck_base.specs.BitSet.{Has}
use Rattle.cfg_model.specs.within.Closing.{AllPass}
use Rattle.cfg_model.specs.within.Parts.{Begins}
use Rattle.cfg_model.specs.Rows.{AreRows}
use Rattle.cfg_model.specs.within.Gather.{Gathers}
use Rattle.cfg_model.specs.within.Trailers.{JoinsRows, BeginsBehind, VanishBehind}
use Rattle.cfg_model.proofs.follow_sets.add_behind.Given as goal

abbrev pub invariant-loop-i : goal.invariant-loop-i
invariant-loop-i l = record {
  fits : l.i ≤ length l.right;
  size : l.trailer.size ≡ l.width;
  are : AreRows l.count l.width l.rows.items;
  trailer : (t : ℕ) → Has l.trailer t ↔ Begins l.firsts l.null (drop l.i l.right) t;
  vanish : IsTrue l.vanish ↔ AllPass false (Has l.null) (drop l.i l.right);
  rows : JoinsRows l.fn.rows.items l.rows.items (BeginsBehind l.firsts l.null (drop l.i l.right));
  edges : Gathers l.fn.edges.items l.edges.items (VanishBehind l.null l.left (drop l.i l.right));
}

abbrev pub decreases-loop-i : goal.decreases-loop-i
decreases-loop-i l = l.i
