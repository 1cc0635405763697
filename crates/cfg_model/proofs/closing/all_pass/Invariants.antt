-- What is left passes exactly where the whole list does.
use Rattle.std.proofs.Common.{◌↔◌, drop}
use Rattle.ck_base.specs.BitSet.{Has}
use Rattle.cfg_model.specs.within.Closing.{AllPass}
use Rattle.cfg_model.proofs.closing.all_pass.Given as goal

abbrev pub invariant-loop-symbol : goal.invariant-loop-symbol
invariant-loop-symbol l = AllPass l.words (Has l.set) (drop l.symbol-index l.list) ↔ AllPass l.words (Has l.set) l.list
