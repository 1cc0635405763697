use Rattle.std.proofs.Common.{◌-◌, length}
use Rattle.cfg_model.specs.Items.{right_of}
use Rattle.lalr_look.proofs.RestSets.{RestSoFar}
use Rattle.lalr_look.proofs.rests.Rests.add.Given as goal

abbrev pub invariant-loop-symbol : goal.invariant-loop-symbol
invariant-loop-symbol l = RestSoFar l.g l.rule l.from l.place l.initial.to l.to

abbrev pub decreases-loop-symbol : goal.decreases-loop-symbol
decreases-loop-symbol l = length (right_of l.g l.rule) - l.place
