-- The lines so far.
use Rattle.std.proofs.Common.{List}
use Rattle.spec_text.specs.Lines.{Line}
use Rattle.spec_text.specs.Spans.{AreLinesOf}
use Rattle.spec_text.specs.SectionSteps.{IsPast}
use Rattle.spec_text.proofs.SectionLines.{SoFar}
use Rattle.spec_text.proofs.order.parts_of.Given as goal

abbrev pub invariant-loop-at : goal.invariant-loop-at
invariant-loop-at l =
    ((are : List Line) → AreLinesOf l.spec l.lines are → SoFar are l.at l.state l.parts.items) × IsPast l.state l.at
