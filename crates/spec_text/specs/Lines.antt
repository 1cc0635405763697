-- The lines of a file that have tokens, and the bad ones.
use Rattle.std.specs.Prelude.{◌≡◌, ℕ, ◌<◌, List, [], ◌∷◌, length, map, Option, Some, None, slice_get}
use Rattle.ck_base.specs.declared.fault.Kind.{Kind}
use Rattle.spec_text.specs.Lexemes.{Lexeme}
use Rattle.spec_text.specs.Reading.{Placed, Reads}
use Rattle.spec_text.specs.TextLines.{TextLine, TextLines}

-- a line: its number, the kind of its first fault, and its tokens up to that
pub record Line : Type 0 where
  pub number : ℕ
  pub bad : Option Kind
  pub tokens : List Placed

-- what the tokens of a line say
abbrev pub said_by : Line → List Lexeme
said_by line = map (λ token. token.said) line.tokens

-- a line that has no token and isn't bad says nothing
abbrev pub IsSilent : List Placed → Option Kind → Type 0
IsSilent tokens bad = (tokens ≡ []) × (bad ≡ None)

-- all lines but those that say nothing are these
pub data ReadLines : List TextLine → List Line → Type 0 where
  none_read : ReadLines [] []
  silent : (text : TextLine) (texts : List TextLine) (lines : List Line)
      → Reads text.at text.bytes [] None → ReadLines texts lines → ReadLines (text ∷ texts) lines
  speaks : (text : TextLine) (texts : List TextLine) (tokens : List Placed) (bad : Option Kind)
      (lines : List Line) → Reads text.at text.bytes tokens bad → (IsSilent tokens bad → ⊥)
      → ReadLines texts lines
      → ReadLines (text ∷ texts) (record { number = text.number; bad = bad; tokens = tokens } ∷ lines)

-- the file has so many lines; these have tokens or are bad
pub record FileLines (file : List ℕ) (lines : List Line) (count : ℕ) : Type 0 where
  pub texts : List TextLine
  pub are : TextLines 1 0 file texts
  pub read : ReadLines texts lines
  pub all : count ≡ length texts

-- the numbers of lines grow
abbrev pub LinesGrow : List Line → Type 0
LinesGrow lines =
    (i j : ℕ) (a b : Line) → slice_get lines i ≡ Some a → slice_get lines j ≡ Some b → i < j
    → a.number < b.number
