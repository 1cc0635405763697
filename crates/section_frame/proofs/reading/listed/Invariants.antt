-- The parts so far; the tokens get fewer.
use Rattle.std.proofs.Common.{List, ◌∷◌, ◌<◌, length, map}
use Rattle.spec_text.specs.Lexemes.{Lexeme}
use Rattle.spec_text.specs.Seen.{seen}
use Rattle.section_frame.specs.Parts.{comma}
use Rattle.section_frame.proofs.PartLists.{ListedSoFar}
use Rattle.section_frame.proofs.reading.listed.Given as goal

abbrev pub invariant-loop-behind : goal.invariant-loop-behind
invariant-loop-behind g l =
    ((at_comma : (rest : List Lexeme) → g.P.ReadPart.follow (comma ∷ rest))
    → ListedSoFar g.P.ReadPart.part g.P.ReadPart.follow at_comma (map seen l.tokens) (map seen l.rest) (map g.P.ReadPart.seen l.parts.items))
    × (length l.rest < length l.tokens)

abbrev pub decreases-loop-behind : goal.decreases-loop-behind
decreases-loop-behind g l = length l.rest
