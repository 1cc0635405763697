-- The lines of a section by its notation: what each declares, which one has no shape, and which one has a
-- fault among the others.
use Rattle.std.specs.Prelude.{◌≡◌, ◌⊎◌, ℕ, ◌<◌, List, [], ◌∷◌, Option, Some, None, slice_get}
use Rattle.ck_base.specs.declared.fault.Kind.{Kind}
use Rattle.ck_base.specs.declared.fault.Kind.TheVariants.{Syntax}
use Rattle.ck_base.specs.declared.fault.SpecFault.{SpecFault}
use Rattle.ck_base.specs.declared.fault.SpecFault.TheVariants.{Bad, NoMemory}
use Rattle.spec_text.specs.Lexemes.{Lexeme}
use Rattle.spec_text.specs.Lines.{Line, said_by}
use Rattle.spec_text.specs.Least.{Least}
use Rattle.section_frame.specs.FirstFault.{Judged, FirstFault}

-- a line's number and what it declares
pub record Declared (S : Type 0) : Type 0 where
  pub number : ℕ
  pub said : S

-- the notation of a section
pub record Notation (S : Type 0) : Type 1 where
  -- the tokens of a whole line declare this
  pub Shape : List Lexeme → S → Type 0
  -- among these declarations the one at the place, which says this, has a fault of the kind
  pub Fault : List (Declared S) → Kind → ℕ → S → Type 0

-- a bad line is reported with its own kind
abbrev pub kind_of : Option Kind → Kind
kind_of None = Syntax
kind_of (Some kind) = kind

-- the line of this number is one of the declarations, and F holds of its place and of what it says
pub record HasAt {S : Type 0} (ds : List (Declared S)) (F : ℕ → S → Type 0) (line : ℕ) : Type 0 where
  pub place : ℕ
  pub declared : Declared S
  pub is : slice_get ds place ≡ Some declared
  pub number : line ≡ declared.number
  pub fault : F place declared.said

-- of lines by their shapes alone
module _ {S : Type 0} (Shape : List Lexeme → S → Type 0) where
  -- the line has a shape and declares this
  pub record Says (line : Line) (d : Declared S) : Type 0 where
    pub good : line.bad ≡ None
    pub shape : Shape (said_by line) d.said
    pub number : d.number ≡ line.number

  -- each line declares one thing
  pub data DeclareAll : List Line → List (Declared S) → Type 0 where
    no_lines : DeclareAll [] []
    one_line : (line : Line) (lines : List Line) (d : Declared S) (ds : List (Declared S)) → Says line d
        → DeclareAll lines ds → DeclareAll (line ∷ lines) (d ∷ ds)

  -- the line of this number has no shape
  pub record HasNoShape (lines : List Line) (number : ℕ) (kind : Kind) : Type 0 where
    pub place : ℕ
    pub line : Line
    pub is : slice_get lines place ≡ Some line
    pub number_is : number ≡ line.number
    pub none : (d : Declared S) → Says line d → ⊥
    pub is_kind : kind ≡ kind_of line.bad

  -- the line of this number has no shape, whatever its kind
  abbrev pub LacksShape : List Line → ℕ → Type 0
  LacksShape lines number = (kind : Kind) × HasNoShape lines number kind

  -- the line's own fault: it has no shape
  abbrev pub IsFaultOfLine : Line → SpecFault → Type 0
  IsFaultOfLine line (Bad number kind) =
      (number ≡ line.number) × (kind ≡ kind_of line.bad) × ((d : Declared S) → Says line d → ⊥)
  IsFaultOfLine line NoMemory = Unit {0}

  -- the fault is that of the first line without a shape, or want of memory
  abbrev pub IsShapeFault : List Line → SpecFault → Type 0
  IsShapeFault lines (Bad number kind) = Least (LacksShape lines) number × HasNoShape lines number kind
  IsShapeFault lines NoMemory = Unit {0}

module _ {S : Type 0} (n : Notation S) where
  abbrev pub HasFault : List (Declared S) → Kind → ℕ → Type 0
  HasFault ds kind = HasAt ds (n.Fault ds kind)

  -- the lines, judged by the notation
  abbrev pub judged : List Line → Judged (List (Declared S))
  judged lines = record { NoShape = HasNoShape n.Shape lines; Declares = DeclareAll n.Shape lines; Has = HasFault }

  -- the same, where the section may have a fault at the line of its head too
  abbrev pub judged_at : ℕ → (List (Declared S) → Kind → Type 0) → List Line → Judged (List (Declared S))
  judged_at head AtHead lines = record {
    NoShape = HasNoShape n.Shape lines;
    Declares = DeclareAll n.Shape lines;
    Has = λ ds kind line. HasFault ds kind line ⊎ ((line ≡ head) × AtHead ds kind);
  }

  -- the fault is the first one, or want of memory
  abbrev pub IsFirstFault : List Line → SpecFault → Type 0
  IsFirstFault lines (Bad line kind) = FirstFault (judged lines) line kind
  IsFirstFault lines NoMemory = Unit {0}

-- line numbers rise
abbrev pub Grow : {S : Type 0} → List (Declared S) → Type 0
Grow {S} ds =
    (i j : ℕ) (d e : Declared S) → slice_get ds i ≡ Some d → slice_get ds j ≡ Some e → i < j
    → d.number < e.number
