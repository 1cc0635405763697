-- The tokens of a section have no more bytes than the file.
use Rattle.std.proofs.Common.{ℕ, zero, suc, ◌+◌, ◌-◌, ◌≤◌, List, [], ◌∷◌, length, take, drop, ap, ◌∙◌, Option, arith}
use Rattle.std.proofs.lemmas.List.{length-append, length-drop}
use Rattle.std.specs.Str.Lines.{strip_carriage_return}
use Rattle.ck_base.specs.declared.fault.Kind.{Kind}
use Rattle.spec_text.specs.Reading.{Placed, Reads, nothing, gap, comment, a_token, too_large, no_token}
use Rattle.spec_text.specs.TextLines.{TextLine, TextLines, no_lines, ended, unended}
use Rattle.spec_text.specs.Lines.{Line, ReadLines, none_read, silent, speaks}
use Rattle.spec_text.specs.Sections.{SectionLines}
use Rattle.spec_text.specs.Promise.{HasSection}
use Rattle.spec_text.specs.Sizes.{token_bytes, line_bytes}
use Rattle.spec_text.specs.declared.section.Section.{Section}
use Rattle.spec_text.proofs.Spelled.{stripped}

of_line : (at : ℕ) (line : List ℕ) (tokens : List Placed) (bad : Option Kind) → Reads at line tokens bad → token_bytes tokens ≤ length line
of_line _ _ _ _ (nothing at) = omega arith
of_line _ _ _ _ (gap at byte rest tokens bad blank more) = let less = of_line (at + 1) rest tokens bad more in omega (arith, less)
of_line _ _ _ _ (comment at hash rest is) = omega arith
of_line _ _ _ _ (a_token at n line said tokens bad begins small more) =
    let less = of_line (at + n) (drop n line) tokens bad more in
    let left = length-drop n line in let fits = begins.fits in omega (arith, less, left, fits)
of_line _ _ _ _ (too_large at n value line begins much) = omega arith
of_line _ _ _ _ (no_token at byte rest blank hash none) = omega arith

abbrev text_bytes : List TextLine → ℕ
text_bytes [] = 0
text_bytes (x ∷ texts) = length x.bytes + text_bytes texts

of_lines : (texts : List TextLine) (lines : List Line) → ReadLines texts lines → line_bytes lines ≤ text_bytes texts
of_lines _ _ none_read = omega arith
of_lines _ _ (silent x texts lines reads more) = let less = of_lines texts lines more in omega (arith, less)
of_lines _ _ (speaks x texts tokens bad lines reads says more) =
    let one = of_line x.at x.bytes tokens bad reads in let less = of_lines texts lines more in omega (arith, one, less)

of_texts : (number at : ℕ) (bytes : List ℕ) (texts : List TextLine) → TextLines number at bytes texts → text_bytes texts ≤ length bytes
of_texts _ _ _ _ (no_lines number at) = omega arith
of_texts _ _ _ _ (ended number at bytes x rest lines are clean more) =
    let less = of_texts (number + 1) (at + length x + 1) rest lines more in
    let (end, is) = stripped x in
    let whole = ap length is ∙ length-append (strip_carriage_return x) end in
    let long = ap length are ∙ length-append x (10 ∷ rest) in omega (arith, less, whole, long)
of_texts _ _ _ _ (unended number at x some clean) = omega arith

taken : (n : ℕ) (lines : List Line) → line_bytes (take n lines) ≤ line_bytes lines
taken zero lines = omega arith
taken (suc n) [] = omega arith
taken (suc n) (line ∷ lines) = let less = taken n lines in omega (arith, less)

dropped : (n : ℕ) (lines : List Line) → line_bytes (drop n lines) ≤ line_bytes lines
dropped zero lines = omega arith
dropped (suc n) [] = omega arith
dropped (suc n) (line ∷ lines) = let less = dropped n lines in omega (arith, less)

pub section_bytes : (file : List ℕ) (section : Section) (these : SectionLines) → HasSection file section these
    → line_bytes these.inside ≤ length file
section_bytes file section these has =
    let read = has.sections.read in
    let a = taken (has.part.end - has.part.first) (drop has.part.first has.lines) in
    let b = dropped has.part.first has.lines in
    let c = of_lines read.texts has.lines read.read in
    let d = of_texts 1 0 file read.texts read.are in
    let same = ap line_bytes has.part_is.are in omega (arith, a, b, c, d, same)
