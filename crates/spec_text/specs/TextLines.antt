-- The lines of a file, each with its place.
use Rattle.std.specs.Prelude.{◌≡◌, ℕ, ◌+◌, ◌<◌, ◌==◌, not, Bool, true, List, [], ◌∷◌, ◌++◌, length}
use Rattle.std.specs.List.{list_all}
use Rattle.std.specs.Str.Lines.{strip_carriage_return}

-- a line: its number, the place of its first byte, and its bytes without the end
pub record TextLine : Type 0 where
  pub number : ℕ
  pub at : ℕ
  pub bytes : List ℕ

-- a byte other than a line feed
abbrev pub is_no_feed : ℕ → Bool
is_no_feed byte = not (byte == 10)

-- the bytes, of which the first stands at the place, are these lines, of which the first has the number
pub data TextLines : ℕ → ℕ → List ℕ → List TextLine → Type 0 where
  no_lines : (number at : ℕ) → TextLines number at [] []
  -- 0x0A ends a line, and a 0x0D directly before it belongs to the end
  ended : (number at : ℕ) (bytes text rest : List ℕ) (lines : List TextLine) → bytes ≡ text ++ 10 ∷ rest
      → list_all is_no_feed text ≡ true → TextLines (number + 1) (at + length text + 1) rest lines
      → TextLines number at bytes
      (record { number = number; at = at; bytes = strip_carriage_return text } ∷ lines)
  -- the last line may lack its end
  unended : (number at : ℕ) (text : List ℕ) → 0 < length text → list_all is_no_feed text ≡ true
      → TextLines number at text (record { number = number; at = at; bytes = text } ∷ [])
