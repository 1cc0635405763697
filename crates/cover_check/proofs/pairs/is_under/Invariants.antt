-- The rules so far don't undercut the label or fill it.
use Rattle.beg_model.specs.Applies.{applies}
use Rattle.beg_model.specs.Labels.{least_of}
use Rattle.cover_check.proofs.PairTold.{UnderTo}
use Rattle.cover_check.proofs.pairs.is_under.Given as goal

abbrev pub invariant-loop-r : goal.invariant-loop-r
invariant-loop-r l = UnderTo (applies l.texts l.rules l.types l.tree) (least_of l.labels) l.node l.x l.label l.r
