use Rattle.std.proofs.Common.{◌≤◌}
use Rattle.rex_model.specs.TableMeaning.{halves_of}
use Rattle.scan_driver.specs.within.Blocks.{Cutting}
use Rattle.scan_driver.proofs.cutting.back_through.Given as goal

abbrev pub invariant-loop-n : goal.invariant-loop-n
invariant-loop-n l = record {
  from : l.begin ≤ l.n;
  upto : l.n ≤ l.end;
  cutting : Cutting (halves_of l.split) l.word l.n l.state;
}

abbrev pub decreases-loop-n : goal.decreases-loop-n
decreases-loop-n l = l.n
