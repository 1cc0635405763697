-- The rules before the place have been gone through.
use Rattle.cfg_model.specs.Rows.{AreRows}
use Rattle.cfg_model.specs.within.Trailers.{JoinsRows}
use Rattle.cfg_model.specs.within.Hiding.{IsHiddenBefore}
use Rattle.cfg_model.proofs.hiding.hide_rules.Given as goal

abbrev pub invariant-loop-i : goal.invariant-loop-i
invariant-loop-i l = record {
  rows : AreRows l.fn.g.nonterminals l.fn.g.nonterminals l.rows.items;
  hidden : JoinsRows l.fn.rows.items l.rows.items (IsHiddenBefore l.fn.g l.null l.met l.i);
}
