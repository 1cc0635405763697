-- A visit to the child is this one alone.
use Rattle.ag_model.proofs.FitsByStep.{gives_visit}
use Rattle.ag_model.specs.Plans.{lists}
use Rattle.ag_model.proofs.steps.gives.Goals as goal

pub returns-then-child-c : goal.returns-then-child-c
returns-then-child-c c =
    gives_visit (lists c.args.sets.now) c.args.step c.in-Visit.child c.in-Visit.visit c.args.c c.args.a c.given.result.now c.is_in.result
    c.in-Visit.is c.if-child-c.true c.given.ensures c.is_in.ensures
