-- The node is right for the nonterminals so far.
use Rattle.std.proofs.Common.{ℕ, ◌<◌}
use Rattle.beg_model.specs.Applies.{applies}
use Rattle.beg_model.specs.Labels.{IsRightAt, least_of, rule_of}
use Rattle.cover_check.proofs.pairs.first_wrong.Given as goal

abbrev pub invariant-loop-x : goal.invariant-loop-x
invariant-loop-x l = (y : ℕ) → y < l.x → IsRightAt (applies l.texts l.rules l.types l.tree) (least_of l.labels) (rule_of l.labels) l.node y
