-- Each pair of parentheses takes one from the depth.
use Rattle.std.proofs.Common.{◌+◌, ◌*◌, ◌≤◌, ◌<◌, length, map}
use Rattle.spec_text.specs.Seen.{seen}
use Rattle.front_spec.specs.Seen.{written_of}
use Rattle.front_spec.proofs.RegexParts.{PieceSoFar, RowSoFar, RowsSoFar}
use Rattle.front_spec.proofs.regexes.+regex.Given as goal

abbrev pub decreases-atom : goal.decreases-atom
decreases-atom l = 4 * l.depth

abbrev pub decreases-piece : goal.decreases-piece
decreases-piece l = 4 * l.depth + 1

abbrev pub decreases-row : goal.decreases-row
decreases-row l = 4 * l.depth + 2

abbrev pub decreases-regex : goal.decreases-regex
decreases-regex l = 4 * l.depth + 3

abbrev pub invariant-piece-loop-repeat : goal.invariant-piece-loop-repeat
invariant-piece-loop-repeat l = PieceSoFar l.depth (map seen l.tokens) (written_of l.read) (map seen l.rest) × (l.read.nesting ≤ 65) × (length l.rest < length l.tokens)

abbrev pub decreases-piece-loop-repeat : goal.decreases-piece-loop-repeat
decreases-piece-loop-repeat l = length l.rest

abbrev pub invariant-row-loop-parts : goal.invariant-row-loop-parts
invariant-row-loop-parts l = RowSoFar l.depth (map seen l.tokens) (map seen l.rest) l.parts.items l.deepest × (l.deepest ≤ 64) × (length l.rest < length l.tokens)

abbrev pub decreases-row-loop-parts : goal.decreases-row-loop-parts
decreases-row-loop-parts l = length l.rest

abbrev pub invariant-regex-loop-behind : goal.invariant-regex-loop-behind
invariant-regex-loop-behind l = RowsSoFar l.depth (map seen l.tokens) (map seen l.rest) l.parts.items l.deepest × (l.deepest ≤ 65) × (length l.rest < length l.tokens)

abbrev pub decreases-regex-loop-behind : goal.decreases-regex-loop-behind
decreases-regex-loop-behind l = length l.rest
