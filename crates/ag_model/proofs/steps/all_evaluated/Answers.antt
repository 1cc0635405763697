-- Attribute by attribute.
use Rattle.std.proofs.Common.{◌↔◌, IsTrue, map, get_or, length, true, false, subst}
use Rattle.ag_model.specs.Plans.{EvaluatedBefore}
use Rattle.ag_model.specs.Attribution.{equation_of}
use Rattle.ag_model.specs.within.StepFits.{place_in}
use Rattle.ag_model.proofs.Tries.{all_more, all_all, one_lacks, of_elements}
use Rattle.ag_model.proofs.steps.all_evaluated.Goals as goal

pub returns-then-not-evaluated_before : goal.returns-then-not-evaluated_before
returns-then-not-evaluated_before c =
    of_elements (λ a. EvaluatedBefore (map equation_of c.args.equations.now) c.args.steps.now c.args.i (place_in c.args.child a)) c.args.part.now false (one_lacks (λ k. EvaluatedBefore (map equation_of c.args.equations.now) c.args.steps.now c.args.i (place_in c.args.child (get_or c.args.part.now k 0))) c.loop-a.a-index (length c.args.part.now) c.evaluated_before.result c.loop-a-test.true (subst (λ u. IsTrue c.evaluated_before.result ↔ EvaluatedBefore (map equation_of c.args.equations.now) c.args.steps.now c.args.i u) c.place_of.ensures c.evaluated_before.ensures) c.if-not-evaluated_before.true)

pub loop-a-preserved : goal.loop-a-preserved
loop-a-preserved c =
    all_more (λ k. EvaluatedBefore (map equation_of c.args.equations.now) c.args.steps.now c.args.i (place_in c.args.child (get_or c.args.part.now k 0))) c.loop-a.a-index c.evaluated_before.result c.loop-a.invariant (subst (λ u. IsTrue c.evaluated_before.result ↔ EvaluatedBefore (map equation_of c.args.equations.now) c.args.steps.now c.args.i u) c.place_of.ensures c.evaluated_before.ensures) c.if-not-evaluated_before.false

pub returns : goal.returns
returns c =
    of_elements (λ a. EvaluatedBefore (map equation_of c.args.equations.now) c.args.steps.now c.args.i (place_in c.args.child a)) c.args.part.now true (all_all (λ k. EvaluatedBefore (map equation_of c.args.equations.now) c.args.steps.now c.args.i (place_in c.args.child (get_or c.args.part.now k 0))) c.loop-a.a-index (length c.args.part.now) c.loop-a-test.false c.loop-a.invariant)
