-- How the lines stand: section by section, in order, then END.
use Rattle.std.specs.Prelude.{◌≡◌, ℕ, ◌+◌, ◌-◌, ◌<◌, List, [], ◌∷◌, ◌++◌, length, take, drop, Some, None, slice_get, codes}
use Rattle.spec_text.specs.Lexemes.{word}
use Rattle.spec_text.specs.Lines.{Line, said_by}
use Rattle.spec_text.specs.declared.section.Section.{Section}
use Rattle.spec_text.specs.declared.section.Section.TheVariants.{Rex, Lalr, Ell, Ast, Ag, Puma, Beg}
use Rattle.spec_text.specs.declared.section.Part.{Part}

-- the word at a section's head
abbrev pub name_of : Section → List ℕ
name_of Rex = codes "REX"
name_of Lalr = codes "LALR"
name_of Ell = codes "ELL"
name_of Ast = codes "AST"
name_of Ag = codes "AG"
name_of Puma = codes "PUMA"
name_of Beg = codes "BEG"

-- which place it has in the order; LALR and ELL stand at the same one
abbrev pub rank : Section → ℕ
rank Rex = 0
rank Lalr = 1
rank Ell = 1
rank Ast = 2
rank Ag = 3
rank Puma = 4
rank Beg = 5

-- the line is this word alone
pub record IsAlone (name : List ℕ) (line : Line) : Type 0 where
  pub good : line.bad ≡ None
  pub said : said_by line ≡ word name ∷ []

-- a section's head line
abbrev pub IsHead : Section → Line → Type 0
IsHead section = IsAlone (name_of section)

-- the line that ends the last section
abbrev pub IsEnd : Line → Type 0
IsEnd = IsAlone (codes "END")

-- the line is no section line
pub record IsPlain (line : Line) : Type 0 where
  pub no_head : (section : Section) → IsHead section line → ⊥
  pub no_end : IsEnd line → ⊥

-- none of the lines is a section line
abbrev pub Inside : List Line → Type 0
Inside [] = Unit {0}
Inside (line ∷ lines) = IsPlain line × Inside lines

-- a section's place among the lines: its head, and its lines from first to before end
abbrev pub part_from : Section → ℕ → ℕ → Part
part_from section head end =
    record { section = section; head = head; first = head + 1; end = end }

-- the lines, of which the first stands at the place, are the sections from this rank on, and END
pub data Stand : ℕ → ℕ → List Line → List Part → Type 0 where
  closed : (k at : ℕ) (line : Line) → 0 < k → IsEnd line → Stand k at (line ∷ []) []
  part : (k at : ℕ) (section : Section) (line : Line) (inside rest : List Line) (parts : List Part)
      → rank section ≡ k → IsHead section line → Inside inside
      → Stand (k + 1) (at + 1 + length inside) rest parts
      → Stand k at (line ∷ (inside ++ rest))
      (part_from section at (at + 1 + length inside) ∷ parts)

-- lines make these sections, in the order of sections, each at most once
abbrev pub AreSections : List Line → List Part → Type 0
AreSections lines parts = Stand 0 0 lines parts

-- up to the line at this place they can't go on to be sections
abbrev pub Breaks : List Line → ℕ → Type 0
Breaks lines i =
    (more : List Line) (parts : List Part) → AreSections (take (i + 1) lines ++ more) parts → ⊥

-- the number of the first line that breaks the order; where none does and END is missing, `past`
pub data SectionFault (past : ℕ) (lines : List Line) : ℕ → Type 0 where
  breaks : (i : ℕ) (line : Line) → slice_get lines i ≡ Some line → Breaks lines i
      → ((j : ℕ) → j < i → Breaks lines j → ⊥) → SectionFault past lines line.number
  unclosed : ((i : ℕ) → i < length lines → Breaks lines i → ⊥)
      → ((parts : List Part) → AreSections lines parts → ⊥) → SectionFault past lines past

-- a section: the number of its head's line, and the lines inside
pub record SectionLines : Type 0 where
  pub head : ℕ
  pub inside : List Line

-- the part of the lines
pub record IsPart (lines : List Line) (part : Part) (these : SectionLines) : Type 0 where
  pub line : Line
  pub at : slice_get lines part.head ≡ Some line
  pub head : these.head ≡ line.number
  pub are : these.inside ≡ take (part.end - part.first) (drop part.first lines)
