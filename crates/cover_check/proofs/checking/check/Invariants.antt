-- The nodes of the preorder so far are right.
use Rattle.std.proofs.Common.{length}
use Rattle.beg_model.specs.Applies.{applies}
use Rattle.beg_model.specs.Labels.{least_of, rule_of}
use Rattle.cover_check.proofs.Visited.{RightBefore}
use Rattle.cover_check.proofs.checking.check.Given as goal

abbrev pub invariant-loop-turn : goal.invariant-loop-turn
invariant-loop-turn l = RightBefore (applies l.texts l.rules l.types l.tree) (least_of l.labels) (rule_of l.labels) l.tree l.root (length l.rules.nonterminals) l._turn l.node
