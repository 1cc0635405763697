use Rattle.rex_model.specs.TableMeaning.{halves_of}
use Rattle.scan_driver.specs.within.Blocks.{Cutting}
use Rattle.scan_driver.proofs.cutting.greatest.Given as goal

abbrev pub invariant-loop-end : goal.invariant-loop-end
invariant-loop-end l = Cutting (halves_of l.split) l.word l.end l.state

abbrev pub decreases-loop-end : goal.decreases-loop-end
decreases-loop-end l = l.end
