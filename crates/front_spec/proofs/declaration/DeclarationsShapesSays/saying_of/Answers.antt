-- A state's line, a rule's line, or neither.
use Rattle.front_spec.specs.RexShapes.{a_state, a_rule}
use Rattle.front_spec.proofs.OneSaying.{neither_shape}
use Rattle.front_spec.proofs.declaration.DeclarationsShapesSays.saying_of.Goals as goal

pub returns-in-Some : goal.returns-in-Some
returns-in-Some c = a_state _ _ c.in-Some.ensures

pub returns-in_default-2 : goal.returns-in_default-2
returns-in_default-2 c = neither_shape _ c.in_default.ensures (rw c.in_default-2.is at c.in_ok-rule.ensures)

pub returns : goal.returns
returns c = a_rule _ _ (rw c.in-Some-2.is at c.in_ok-rule.ensures)
