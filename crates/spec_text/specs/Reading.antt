-- The tokens of a line, from left to right, up to its first fault.
use Rattle.std.specs.Prelude.{◌≡◌, ℕ, ◌+◌, ◌<◌, ◌≤◌, true, false, List, [], ◌∷◌, drop, Option, Some, None, if◌then◌else◌}
use Rattle.std.specs.List.{list_all}
use Rattle.ck_base.specs.declared.fault.Kind.{Kind}
use Rattle.ck_base.specs.declared.fault.Kind.TheVariants.{Syntax, Limit}
use Rattle.spec_text.specs.Bytes.{is_blank, is_line_byte}
use Rattle.spec_text.specs.Lexemes.{Lexeme, word, number, text, class, sign, Begins}

-- a token, and the places of its first byte and of the byte after it
pub record Placed : Type 0 where
  pub said : Lexeme
  pub from : ℕ
  pub to : ℕ

-- the greatest number that may stand
abbrev pub most : ℕ
most = 9223372036854775807

-- no number above the greatest one
abbrev pub IsSmall : Lexeme → Type 0
IsSmall (word bytes) = Unit {0}
IsSmall (number n) = n ≤ most
IsSmall (text bytes) = Unit {0}
IsSmall (class set) = Unit {0}
IsSmall (sign bytes) = Unit {0}

-- the fault of a comment: a byte that may stand in no line
abbrev pub comment_fault : List ℕ → Option Kind
comment_fault rest = if list_all is_line_byte rest then None else Some Syntax

-- the line, whose first byte stands at `at`, has these tokens up to its first fault
pub data Reads : ℕ → List ℕ → List Placed → Option Kind → Type 0 where
  nothing : (at : ℕ) → Reads at [] [] None
  gap : (at byte : ℕ) (rest : List ℕ) (tokens : List Placed) (bad : Option Kind) → is_blank byte ≡ true
      → Reads (at + 1) rest tokens bad → Reads at (byte ∷ rest) tokens bad
  comment : (at hash : ℕ) (rest : List ℕ) → hash ≡ 35 → Reads at (hash ∷ rest) [] (comment_fault rest)
  a_token : (at n : ℕ) (line : List ℕ) (said : Lexeme) (tokens : List Placed) (bad : Option Kind) → Begins line said n → IsSmall said
      → Reads (at + n) (drop n line) tokens bad
      → Reads at line (record { said = said; from = at; to = at + n } ∷ tokens) bad
  too_large : (at n value : ℕ) (line : List ℕ) → Begins line (number value) n → most < value → Reads at line [] (Some Limit)
  no_token : (at byte : ℕ) (rest : List ℕ) → is_blank byte ≡ false → (byte ≡ 35 → ⊥)
      → ((said : Lexeme) (n : ℕ) → Begins (byte ∷ rest) said n → ⊥) → Reads at (byte ∷ rest) [] (Some Syntax)
