-- The lines so far have declared.
use Rattle.std.proofs.Common.{List, take, map, length, ◌≡◌}
use Rattle.section_frame.specs.Declares.{DeclareAll}
use Rattle.spec_text.specs.Lines.{Line}
use Rattle.spec_text.specs.Spans.{AreLinesOf}
use Rattle.section_frame.specs.Passes.{judged_by}
use Rattle.section_frame.proofs.shapes.declared_lines.Given as goal

abbrev pub invariant-loop-line : goal.invariant-loop-line
invariant-loop-line g l =
    ((are : List Line) → AreLinesOf l.spec l.lines are
    → DeclareAll g.R.Shapes.shape (take l.line-index are) (map (judged_by g.R.Shapes.seen) l.list.items))
    × (length l.list.items ≡ l.line-index)
