-- The parts so far; the tokens get fewer.
use Rattle.std.proofs.Common.{List, length, map}
use Rattle.spec_text.specs.Lexemes.{Lexeme}
use Rattle.spec_text.specs.Seen.{seen}
use Rattle.section_frame.proofs.PartLists.{RepSoFar}
use Rattle.section_frame.proofs.reading.repeated.Given as goal

abbrev pub invariant-loop-parts : goal.invariant-loop-parts
invariant-loop-parts g l =
    (at_next : (tokens rest : List Lexeme) (v : g.P.ReadPart.Said) → g.P.ReadPart.part tokens v rest → g.P.ReadPart.follow tokens)
    → RepSoFar g.P.ReadPart.part g.P.ReadPart.follow at_next (map seen l.tokens) (map seen l.rest) (map g.P.ReadPart.seen l.parts.items)

abbrev pub decreases-loop-parts : goal.decreases-loop-parts
decreases-loop-parts g l = length l.rest
