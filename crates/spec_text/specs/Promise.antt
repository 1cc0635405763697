-- What the sections of a file are, and what `sections` gives of them.
use Rattle.std.specs.Prelude.{◌≡◌, ℕ, ◌+◌, ◌<◌, List, Some, Contains, slice_get}
use Rattle.ck_base.specs.declared.fault.Kind.TheVariants.{Section as section_kind}
use Rattle.ck_base.specs.declared.fault.SpecFault.{SpecFault}
use Rattle.ck_base.specs.declared.fault.SpecFault.TheVariants.{Bad, NoMemory}
use Rattle.spec_text.specs.Lines.{Line, FileLines}
use Rattle.spec_text.specs.Sections.{AreSections, SectionFault, SectionLines, IsPart}
use Rattle.spec_text.specs.Spans.{AreLinesOf}
use Rattle.spec_text.specs.declared.section.Section.{Section}
use Rattle.spec_text.specs.declared.section.Part.{Part}
use Rattle.spec_text.specs.declared.section.Sections.{Sections}
use Rattle.spec_text.specs.declared.section.SectionText.{SectionText}

-- the lines of the file, and the sections among them
pub record HasSections (file : List ℕ) (lines : List Line) (parts : List Part) : Type 0 where
  pub count : ℕ
  pub read : FileLines file lines count
  pub are : AreSections lines parts

-- the file has this section, with these lines
pub record HasSection (file : List ℕ) (section : Section) (these : SectionLines) : Type 0 where
  pub lines : List Line
  pub parts : List Part
  pub sections : HasSections file lines parts
  pub part : Part
  pub among : Contains parts part
  pub is : part.section ≡ section
  pub part_is : IsPart lines part these

-- these are the sections of the file
pub record AreSectionsOf (file : List ℕ) (s : Sections) : Type 0 where
  pub lines : List Line
  pub sections : HasSections file lines s.parts.items
  pub spans : AreLinesOf file s.lines.items lines

-- the program's section is this one of the file
pub record IsSectionOf (file : List ℕ) (section : Section) (found : SectionText) : Type 0 where
  pub these : SectionLines
  pub has : HasSection file section these
  pub head : found.head ≡ these.head
  pub lines : AreLinesOf file found.lines.now these.inside

-- the line is the head of the first section of the file that isn't one of these
pub record IsFirstOther (file : List ℕ) (these : List Section) (line : ℕ) : Type 0 where
  pub lines : List Line
  pub parts : List Part
  pub sections : HasSections file lines parts
  pub place : ℕ
  pub part : Part
  pub at : slice_get parts place ≡ Some part
  pub other : Contains these part.section → ⊥
  pub first : (i : ℕ) (p : Part) → i < place → slice_get parts i ≡ Some p → Contains these p.section
  pub head : Line
  pub head_at : slice_get lines part.head ≡ Some head
  pub number : line ≡ head.number

-- the first section fault of the file
pub record FirstSectionFault (file : List ℕ) (line : ℕ) : Type 0 where
  pub lines : List Line
  pub count : ℕ
  pub read : FileLines file lines count
  pub fault : SectionFault (count + 1) lines line

-- the first fault of the order of sections, or that memory was wanted
abbrev pub IsSectionFault : List ℕ → SpecFault → Type 0
IsSectionFault file (Bad line kind) = FirstSectionFault file line × (kind ≡ section_kind)
IsSectionFault file NoMemory = Unit {0}
