-- One nonterminal after the other.
use Rattle.std.proofs.Common.{inl, inr, subst, arith}
use Rattle.beg_model.specs.Applies.{applies}
use Rattle.beg_model.specs.Labels.{IsRightAt, least_of, rule_of}
use Rattle.beg_model.proofs.Search.{last_or_before}
use Rattle.cover_check.proofs.pairs.first_wrong.Goals as goal

pub loop-x-preserved : goal.loop-x-preserved
loop-x-preserved c = λ y lt. elim (last_or_before y c.loop-x.x (omega (arith, lt))) [
  | inl same ↦ subst (IsRightAt (applies c.args.texts.now c.args.rules.now c.args.types.now c.args.tree.now) (least_of c.args.labels.now) (rule_of c.args.labels.now) c.args.node) same c.if-not-right.ensures
  | inr before ↦ c.loop-x.invariant y before
]

pub returns-then-not-right : goal.returns-then-not-right
returns-then-not-right c = record { there = omega (arith, c.loop-x-test.true, c.len-x-end.ensures); wrong = c.if-not-right.ensures; before = c.loop-x.invariant }

pub returns : goal.returns
returns c = λ y small. c.loop-x.invariant y (omega (arith, small, c.loop-x-test.false, c.len-x-end.ensures))
