-- Laws on tokens, lines and sections.
use Rattle.std.specs.Prelude.{◌≡◌, ℕ, List, Option}
use Rattle.ck_base.specs.Found.{HasNo}
use Rattle.ck_base.specs.declared.fault.Kind.{Kind}
use Rattle.spec_text.specs.Reading.{Placed, Reads}
use Rattle.spec_text.specs.Lexemes.{Lexeme, Begins}
use Rattle.spec_text.specs.Lines.{Line, FileLines}
use Rattle.spec_text.specs.Promise.{HasSections, HasSection, FirstSectionFault}
use Rattle.spec_text.specs.Sections.{SectionLines}
use Rattle.spec_text.specs.declared.section.Section.{Section}
use Rattle.spec_text.specs.declared.section.Section.TheVariants.{Rex}
use Rattle.spec_text.specs.declared.section.Part.{Part}

-- a line begins with one token at most
abbrev pub OneBegin : Type 0
OneBegin =
    (line : List ℕ) (said other : Lexeme) (n m : ℕ) → Begins line said n → Begins line other m
    → (said ≡ other) × (n ≡ m)

-- a line has one reading at most
abbrev pub OneReading : Type 0
OneReading =
    (at : ℕ) (line : List ℕ) (tokens others : List Placed) (bad worse : Option Kind)
    → Reads at line tokens bad → Reads at line others worse → (tokens ≡ others) × (bad ≡ worse)

-- a file has its lines in one way
abbrev pub OneFile : Type 0
OneFile =
    (file : List ℕ) (lines others : List Line) (n m : ℕ) → FileLines file lines n
    → FileLines file others m → (lines ≡ others) × (n ≡ m)

-- a file has its sections in one way at most
abbrev pub OneOrder : Type 0
OneOrder =
    (file : List ℕ) (lines others : List Line) (parts more : List Part) → HasSections file lines parts
    → HasSections file others more → (lines ≡ others) × (parts ≡ more)

-- a file has each section once at most
abbrev pub OneSection : Type 0
OneSection =
    (file : List ℕ) (section : Section) (these those : SectionLines) → HasSection file section these
    → HasSection file section those → these ≡ those

-- a file has one section fault at most, and none beside its sections
abbrev pub OneSectionFault : Type 0
OneSectionFault =
    ((file : List ℕ) (line other : ℕ) → FirstSectionFault file line → FirstSectionFault file other
    → line ≡ other)
    × ((file : List ℕ) (lines : List Line) (parts : List Part) (line : ℕ)
    → HasSections file lines parts → FirstSectionFault file line → ⊥)

-- a line has a reading: it can't be that there is none
abbrev pub SomeReading : Type 0
SomeReading =
    (at : ℕ) (line : List ℕ)
    → ((tokens : List Placed) (bad : Option Kind) → Reads at line tokens bad → ⊥) → ⊥

-- a file has lines: it can't be that there are none
abbrev pub SomeFile : Type 0
SomeFile =
    (file : List ℕ) → ((lines : List Line) (count : ℕ) → FileLines file lines count → ⊥) → ⊥

-- a file has sections or a first section fault: it can't be that there is neither
abbrev pub SomeOrder : Type 0
SomeOrder =
    (file : List ℕ) → ((lines : List Line) (parts : List Part) → HasSections file lines parts → ⊥)
    → HasNo (FirstSectionFault file) → ⊥

-- a file that has sections has REX
abbrev pub SomeRex : Type 0
SomeRex =
    (file : List ℕ) (lines : List Line) (parts : List Part) → HasSections file lines parts
    → (these : SectionLines) × HasSection file Rex these
