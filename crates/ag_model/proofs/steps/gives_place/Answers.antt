-- The equation is that of the list.
use Rattle.ag_model.proofs.FitsByStep.{gives_is, gives_none}
use Rattle.ag_model.proofs.steps.gives_place.Goals as goal

pub returns-then-e-equations : goal.returns-then-e-equations
returns-then-e-equations c =
    gives_is c.args.equations.now c.args.e c.index-equations-e.result c.args.place c.is_same.result c.if-e-equations.true c.index-equations-e.is c.is_same.ensures

pub returns-else-e-equations : goal.returns-else-e-equations
returns-else-e-equations c = (
  (λ yes. absurd (cc)),
  (λ found. absurd (gives_none c.args.equations.now c.args.e c.args.place c.if-e-equations.false found)),
)
