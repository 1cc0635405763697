-- A line has one of two forms.
use Rattle.ag_spec.specs.AgShapes.{attribute_line, equation_line}
use Rattle.ag_spec.proofs.LineReadings.{no_shape}
use Rattle.ag_spec.proofs.shapes.AgLinesShapesSaying.saying_of.Goals as goal

pub returns-in-Some : goal.returns-in-Some
returns-in-Some c = attribute_line _ _ (rw c.in-Some.is at c.in_ok-declared.ensures)

pub returns-in_default-2 : goal.returns-in_default-2
returns-in_default-2 c =
    no_shape _ (rw c.in_default.is at c.in_ok-declared.ensures) (rw c.in_default-2.is at c.in_ok-given.ensures)

pub returns : goal.returns
returns c = equation_line _ _ (rw c.in-Some-2.is at c.in_ok-given.ensures)
