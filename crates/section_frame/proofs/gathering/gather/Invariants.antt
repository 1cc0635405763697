-- The names of the lines so far.
use Rattle.std.proofs.Common.{◌≡◌, ◌≤◌, ◌+◌, map, take, length}
use Rattle.ck_base.specs.Numbered.{met}
use Rattle.section_frame.specs.Passes.{judged_by}
use Rattle.section_frame.specs.Words.{names_by}
use Rattle.section_frame.proofs.gathering.gather.Given as goal

abbrev pub invariant-loop-line : goal.invariant-loop-line
invariant-loop-line g l =
    (l.names ≡ met l.initial.names (names_by g.N.Naming.name (take l.line-index (map (judged_by g.N.Naming.seen) l.list))))
    × (length l.names ≤ length l.initial.names + l.line-index)
