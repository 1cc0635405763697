use Rattle.std.proofs.Common.{arith, ◌+◌, ap, map, refl}
use Rattle.expr_lang.specs.Units.{units_of_all}
use Rattle.expr_lang.specs.Meaning.{meaning, expressions_of}
use Rattle.expr_lang.proofs.Meanings.{meaning-Neg, meaning-Not, meaning-Binary, meaning-If, meaning-Call, meaning-Make}
use Rattle.expr_lang.proofs.Applies.{drop_end}
use Rattle.expr_lang.proofs.Evaluates.{count-exs, units_at}
use Rattle.expr_lang.proofs.units_count.+units.Goals as goal

pub units-returns-in-Neg : goal.units-returns-in-Neg
units-returns-in-Neg t c = λ s l. rw (c.in-Neg.is, meaning-Neg) (c.units.ensures s l)

pub units-returns-in-Not : goal.units-returns-in-Not
units-returns-in-Not t c = λ s l. rw (c.in-Not.is, meaning-Not) (c.units-in-Not.ensures s l)

pub units-returns-in-Binary : goal.units-returns-in-Binary
units-returns-in-Binary t c = λ s l. rw (c.in-Binary.is, meaning-Binary) (let a = c.units-in-Binary.ensures s l in let b = c.units-in-Binary-2.ensures s l in let sum = c.saturating_add.ensures in omega (arith, a, b, sum))

pub units-returns-in-If : goal.units-returns-in-If
units-returns-in-If t c = λ s l. rw (c.in-If.is, meaning-If) (let x = c.units-in-If.ensures s l in let a = c.units-in-If-2.ensures s l in let b = c.units-in-If-3.ensures s l in
    let one = c.saturating_add-in-If.ensures in let two = c.saturating_add-in-If-2.ensures in omega (arith, x, a, b, one, two))

pub units-returns-in-Call : goal.units-returns-in-Call
units-returns-in-Call t c = λ s l. rw (c.in-Call.is, meaning-Call) (let a = c.units_all.ensures s l in let b = c.units_here.ensures in let sum = c.saturating_add-in-Call.ensures in omega (arith, a, b, sum))

pub units-returns-in-Make : goal.units-returns-in-Make
units-returns-in-Make t c = λ s l. rw (c.in-Make.is, meaning-Make) (let a = c.units_all-in-Make.ensures s l in let n = count-exs s l c.in-Make.args.now in
    let one = c.saturating_add-in-Make.ensures in let two = c.saturating_add-in-Make-2.ensures in omega (arith, a, n, one, two))

pub units_all-loop-e-preserved : goal.units_all-loop-e-preserved
units_all-loop-e-preserved t c = record {
  few = (let sum = c.saturating_add-sum.ensures in omega (arith, sum));
  same = λ s b. (let at = units_at s b c.args.args.now (c.loop-e.e-index + 1) c.loop-e.e-index c.e-item.result refl c.loop-e-test.true c.e-item.is in
      let here = c.units.ensures s b in let sum = c.saturating_add-sum.ensures in let before = c.loop-e.invariant.same s b in omega (arith, at, here, sum, before));
}

pub units_all-returns : goal.units_all-returns
units_all-returns t c = λ s l.
    (let none = ap (λ es. units_of_all (expressions_of (map (meaning s l) es))) (drop_end c.args.args.now c.loop-e.e-index (let end = c.loop-e-test.false in omega (arith, end))) in
    let few = c.loop-e.invariant.few in let same = c.loop-e.invariant.same s l in omega (arith, none, few, same))
