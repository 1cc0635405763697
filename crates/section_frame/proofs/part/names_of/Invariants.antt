-- The names so far.
use Rattle.std.proofs.Common.{length, map}
use Rattle.spec_text.specs.Seen.{seen}
use Rattle.spec_text.specs.Seen.{bytes_of}
use Rattle.section_frame.proofs.Names.{NamesSoFar}
use Rattle.section_frame.proofs.part.names_of.Given as goal

abbrev pub invariant-loop-behind : goal.invariant-loop-behind
invariant-loop-behind l = NamesSoFar (map seen l.tokens) (map seen l.rest) (map bytes_of l.names.items)

abbrev pub decreases-loop-behind : goal.decreases-loop-behind
decreases-loop-behind l = length l.rest
