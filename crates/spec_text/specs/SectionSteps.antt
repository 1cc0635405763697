-- What the steps of the loop over lines give. Only contracts within the crate cite these.
use Rattle.std.specs.Prelude.{◌≡◌, ℕ, ◌+◌, ◌<◌, List, [], ◌∷◌, ◌++◌, length, Option, Some, None, codes}
use Rattle.ck_base.specs.declared.fault.Kind.TheVariants.{Section as section_kind}
use Rattle.ck_base.specs.declared.fault.SpecFault.{SpecFault}
use Rattle.ck_base.specs.declared.fault.SpecFault.TheVariants.{Bad, NoMemory}
use Rattle.spec_text.specs.declared.section.Section.{Section}
use Rattle.spec_text.specs.declared.section.Part.{Part}
use Rattle.spec_text.specs.declared.order.Mark.{Mark}
use Rattle.spec_text.specs.declared.order.Mark.TheVariants.{Head, End, Plain}
use Rattle.spec_text.specs.declared.order.State.{State}
use Rattle.spec_text.specs.declared.order.State.TheVariants.{Start, Open, Closed}
use Rattle.spec_text.specs.Lines.{Line}
use Rattle.spec_text.specs.Sections.{IsHead, IsEnd, IsPlain, Inside, Stand, part_from, rank, name_of, SectionFault}

-- what the line is
abbrev pub IsMark : Line → Mark → Type 0
IsMark line (Head section) = IsHead section line
IsMark line End = IsEnd line
IsMark line Plain = IsPlain line

-- a section is open from its head on, and the line at the place comes next
pub record Within (section : Section) (head at : ℕ) (lines : List Line) (parts : List Part) : Type 0 where
  pub inside : List Line
  pub rest : List Line
  pub others : List Part
  pub are : lines ≡ inside ++ rest
  pub plain : Inside inside
  pub stand : Stand (rank section + 1) (at + length inside) rest others
  pub all : parts ≡ part_from section head (at + length inside) ∷ others

-- the lines that are left give these parts
abbrev pub Left : State → ℕ → List Line → List Part → Type 0
Left Start at lines parts = Stand 0 at lines parts
Left (Open section head) at lines parts = Within section head at lines parts
Left Closed at lines parts = (lines ≡ []) × (parts ≡ [])

-- the next line ends these parts, and leads to this state
pub record Moves (state : State) (at : ℕ) (line : Line) (next : State) (ended : List Part) : Type 0 where
  pub into : (lines : List Line) (parts : List Part) → Left next (at + 1) lines parts → Left state at (line ∷ lines) (ended ++ parts)
  pub from : (lines : List Line) (all : List Part) → Left state at (line ∷ lines) all → (parts : List Part) × (all ≡ ended ++ parts) × Left next (at + 1) lines parts

-- the line can't come next
abbrev pub Stuck : State → ℕ → Line → Type 0
Stuck state at line = (lines : List Line) (all : List Part) → Left state at (line ∷ lines) all → ⊥

-- the part that is open, if any
abbrev pub parts_in : Option Part → List Part
parts_in None = []
parts_in (Some part) = part ∷ []

-- the word alone is this
abbrev pub IsMarkOf : List ℕ → Mark → Type 0
IsMarkOf name (Head section) = name ≡ name_of section
IsMarkOf name End = name ≡ codes "END"
IsMarkOf name Plain = ((section : Section) → name ≡ name_of section → ⊥) × (name ≡ codes "END" → ⊥)

-- a fault of these lines behind so many others, or that memory was wanted
abbrev pub IsFaultOf : ℕ → List Line → SpecFault → Type 0
IsFaultOf past lines (Bad line kind) = SectionFault past lines line × (kind ≡ section_kind)
IsFaultOf past lines NoMemory = Unit {0}

-- the head stands before the place
abbrev pub IsPast : State → ℕ → Type 0
IsPast Start at = Unit {0}
IsPast (Open section head) at = head < at
IsPast Closed at = Unit {0}
