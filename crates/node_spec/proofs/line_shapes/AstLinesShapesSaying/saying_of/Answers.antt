-- A line has one of five forms.
use Rattle.node_spec.specs.AstShapes.{family_line, target_line, node_line}
use Rattle.node_spec.proofs.LineReadings.{type_shape, build_shape, no_shape}
use Rattle.node_spec.proofs.line_shapes.AstLinesShapesSaying.saying_of.Goals as goal

pub returns-in-Some : goal.returns-in-Some
returns-in-Some c = family_line _ _ c.in-Some.ensures

pub returns-in-Some-name_behind : goal.returns-in-Some-name_behind
returns-in-Some-name_behind c = search (target_line, c.in-Some-name_behind.ensures)

pub returns-in-Some-2 : goal.returns-in-Some-2
returns-in-Some-2 c = type_shape _ _ _ _ (rw c.in-Some-2.is at c.in_ok-name.ensures)

pub returns-in-Some-node_line : goal.returns-in-Some-node_line
returns-in-Some-node_line c = node_line _ _ _ c.in-Some-node_line.ensures

pub returns-in_default-3 : goal.returns-in_default-3
returns-in_default-3 c =
    no_shape _ c.in_default.ensures c.in_default-name_behind.ensures (rw c.in_default-2.is at c.in_ok-name.ensures)
    c.in_default-node_line.ensures (rw c.in_default-3.is at c.in_ok-label.ensures)

pub returns : goal.returns
returns c = build_shape _ _ _ (rw c.in-Some-3.is at c.in_ok-label.ensures)
