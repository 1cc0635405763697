-- What the rest of the right side meets is all that is missing.
use Rattle.std.proofs.Common.{drop}
use Rattle.cfg_model.specs.Rows.{AreRows}
use Rattle.cfg_model.proofs.HiddenRows.{Hiding}
use Rattle.cfg_model.proofs.hiding.hide_rule.Given as goal

abbrev pub invariant-loop-symbol : goal.invariant-loop-symbol
invariant-loop-symbol l = record {
  rows : AreRows l.count l.count l.rows.items;
  hiding : Hiding l.null l.met l.left l.right l.behind (drop l.symbol-index l.right) l.fn.rows.items l.rows.items;
}
