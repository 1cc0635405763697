-- What has parts takes one from the nesting that is left.
use Rattle.std.proofs.Common.{◌+◌, ◌*◌, length, map}
use Rattle.spec_text.specs.Seen.{seen}
use Rattle.expr_read.specs.PatternWriting.{pattern_of}
use Rattle.expr_read.proofs.PatternsSoFar.{PatternsSoFar}
use Rattle.expr_read.proofs.patterns.+patterns.Given as goal

abbrev pub decreases-pattern : goal.decreases-pattern
decreases-pattern l = 4 * l.left + 3

abbrev pub decreases-with_name : goal.decreases-with_name
decreases-with_name l = 4 * l.left + 2

abbrev pub decreases-parts : goal.decreases-parts
decreases-parts l = 4 * l.left + 5

abbrev pub decreases-row : goal.decreases-row
decreases-row l = 4 * l.left + 4

abbrev pub invariant-row-loop-behind : goal.invariant-row-loop-behind
invariant-row-loop-behind l = PatternsSoFar l.left (map seen l.tokens) (map seen l.rest) (map pattern_of l.list.items)

abbrev pub decreases-row-loop-behind : goal.decreases-row-loop-behind
decreases-row-loop-behind l = length l.rest
