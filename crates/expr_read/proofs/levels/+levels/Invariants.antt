-- What has parts takes one from the nesting that is left.
use Rattle.std.proofs.Common.{◌+◌, ◌*◌, ◌-◌, length, map}
use Rattle.spec_text.specs.Seen.{seen}
use Rattle.expr_read.specs.Writing.{spoken_of}
use Rattle.expr_read.proofs.Chains.{ChainSoFar}
use Rattle.expr_read.proofs.OperatorRows.{RowSoFar}
use Rattle.expr_read.proofs.levels.+levels.Given as goal

abbrev pub decreases-row : goal.decreases-row
decreases-row l = 32 * l.left

abbrev pub decreases-arguments : goal.decreases-arguments
decreases-arguments l = 32 * l.left + 1

abbrev pub decreases-named : goal.decreases-named
decreases-named l = 32 * l.left + 2

abbrev pub decreases-group : goal.decreases-group
decreases-group l = 32 * l.left

abbrev pub decreases-primary : goal.decreases-primary
decreases-primary l = 32 * l.left + 3

abbrev pub decreases-prefixed : goal.decreases-prefixed
decreases-prefixed l = 32 * l.left + 5

abbrev pub decreases-chain : goal.decreases-chain
decreases-chain l = 32 * l.left + 2 * (8 - l.level) + 5

abbrev pub decreases-operand : goal.decreases-operand
decreases-operand l = 32 * l.left + 2 * (8 - l.level) + 6

abbrev pub decreases-conditional : goal.decreases-conditional
decreases-conditional l = 32 * l.left

abbrev pub decreases-whole : goal.decreases-whole
decreases-whole l = 32 * l.left + 24

abbrev pub invariant-chain-loop-op : goal.invariant-chain-loop-op
invariant-chain-loop-op l = ChainSoFar l.level l.left (map seen l.tokens) (spoken_of l.read.body) l.read.nesting (map seen l.rest)

abbrev pub decreases-chain-loop-op : goal.decreases-chain-loop-op
decreases-chain-loop-op l = l.left - l.read.nesting

abbrev pub invariant-row-loop-behind : goal.invariant-row-loop-behind
invariant-row-loop-behind l = RowSoFar l.left (map seen l.tokens) (map seen l.rest) (map spoken_of l.parts.items) l.deepest

abbrev pub decreases-row-loop-behind : goal.decreases-row-loop-behind
decreases-row-loop-behind l = length l.rest
