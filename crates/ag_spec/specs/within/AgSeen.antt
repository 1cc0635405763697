-- What the lines of the program declare. Only contracts within the crate cite these.
use Rattle.expr_read.specs.Writing.{named_by, spoken_of}
use Rattle.ag_spec.specs.AgShapes.{AgSaying, SaidAttribute, SaidEquation, attribute, equation}
use Rattle.ag_spec.specs.declared.line.AttributeText.{AttributeText}
use Rattle.ag_spec.specs.declared.line.EquationText.{EquationText}
use Rattle.ag_spec.specs.declared.line.Saying.{Saying}
use Rattle.ag_spec.specs.declared.line.Saying.TheVariants.{Attribute, Equation}

-- the pure form of an attribute
abbrev pub attribute_seen : AttributeText → SaidAttribute
attribute_seen line = record {
  family = line.family.now;
  name = line.name.now;
  called = line.called.now;
  of = line.of.now;
  synthesized = line.synthesized;
}

-- the pure form of an equation
abbrev pub equation_seen : EquationText → SaidEquation
equation_seen line = record {
  holder = line.holder.now;
  target = named_by line.target;
  called = line.called.now;
  value = spoken_of line.value;
}

-- the pure form of what a line says
abbrev pub saying_seen : Saying → AgSaying
saying_seen (Attribute line) = attribute (attribute_seen line)
saying_seen (Equation line) = equation (equation_seen line)
