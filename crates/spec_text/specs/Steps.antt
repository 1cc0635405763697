-- What the steps of the reader give. Only contracts within the crate cite these.
use Rattle.std.specs.Prelude.{◌≡◌, ℕ, ◌+◌, ◌<◌, ◌≤◌, ◌&&◌, Bool, false, List, [], ◌∷◌, ◌++◌, ◌-◌, length, take, drop, map, Option, Some, None, slice_get}
use Rattle.ck_base.specs.declared.fault.Kind.{Kind}
use Rattle.spec_text.specs.Bytes.{is_letter, is_digit, is_sign_pair}
use Rattle.spec_text.specs.Lexemes.{Lexeme, Begins, Quoted, Form, text, class}
use Rattle.spec_text.specs.Escapes.{is_hex}
use Rattle.spec_text.specs.Reading.{Placed, Reads}
use Rattle.spec_text.specs.declared.token.SpecSort.{SpecSort}
use Rattle.spec_text.specs.declared.token.SpecToken.{SpecToken}
use Rattle.spec_text.specs.declared.line.SpecLine.{SpecLine}
use Rattle.spec_text.specs.TextLines.{TextLine, TextLines}
use Rattle.spec_text.specs.Lines.{Line, IsSilent, FileLines}
use Rattle.spec_text.specs.Spans.{sort_of, span_of, spans_in, spans_of, Spells}

-- there are none
abbrev pub HasNo2 : {X Y : Type 0} → (X → Y → Type 0) → Type 0
HasNo2 {X} {Y} P = (x : X) (y : Y) → P x y → ⊥

-- the line begins with a token of this sort and of n bytes
pub record IsFirst (line : List ℕ) (sort : SpecSort) (n : ℕ) : Type 0 where
  pub said : Lexeme
  pub is_sort : sort ≡ sort_of said
  pub begins : Begins line said n

-- the first n bytes stand between quotes, and the second quote follows
pub record IsInside (bytes : List ℕ) (n : ℕ) : Type 0 where
  pub meant : List ℕ
  pub quoted : Quoted (take n bytes) meant
  pub ends : slice_get bytes n ≡ Some 34

-- what stands between quotes, and its meaning
pub record IsInsideOf (bytes inside meant : List ℕ) : Type 0 where
  pub rest : List ℕ
  pub are : bytes ≡ inside ++ 34 ∷ rest
  pub quoted : Quoted inside meant

-- the tokens are those of the line
pub record IsRead (at : ℕ) (line : List ℕ) (tokens : List SpecToken) (bad : Option Kind) : Type 0 where
  pub seen : List Placed
  pub are : tokens ≡ map span_of seen
  pub reads : Reads at line seen bad

-- the byte and the one behind it are a sign together
abbrev pub pair_at : ℕ → List ℕ → Bool
pair_at first [] = false
pair_at first (second ∷ rest) = is_sign_pair first second

-- no word, number or string begins with the byte
pub record IsElse (byte : ℕ) : Type 0 where
  pub letter : is_letter byte ≡ false
  pub digit : is_digit byte ≡ false
  pub quote : byte ≡ 34 → ⊥
  pub bracket : byte ≡ 91 → ⊥

-- the bytes between quotes begin with a character of n bytes
pub record IsCharacter (bytes : List ℕ) (n : ℕ) : Type 0 where
  pub fits : n ≤ length bytes
  pub some : 0 < n
  pub before : (inside meant : List ℕ) → Quoted inside meant → (more : List ℕ) × Quoted (take n bytes ++ inside) more
  pub behind : (inside meant rest : List ℕ) → bytes ≡ inside ++ 34 ∷ rest → Quoted inside meant
      → (u : List ℕ) × (v : List ℕ) × (inside ≡ take n bytes ++ u) × Quoted u v × (drop n bytes ≡ u ++ 34 ∷ rest)

-- nothing but the second quote may follow
abbrev pub HasNoCharacter : List ℕ → Type 0
HasNoCharacter bytes = (inside meant rest : List ℕ) → bytes ≡ inside ++ 34 ∷ rest → Quoted inside meant → inside ≡ []

-- the bytes begin with two hexadecimal digits
abbrev pub begins_hex : List ℕ → Bool
begins_hex [] = false
begins_hex (high ∷ []) = false
begins_hex (high ∷ low ∷ rest) = is_hex high && is_hex low

-- the inside of a string is at its end
abbrev pub MeansNothing : List ℕ → Type 0
MeansNothing bytes = (meant : List ℕ) → Quoted bytes meant → meant ≡ []

-- the inside of a string begins with a character that means the byte
pub record MeansFirst (bytes : List ℕ) (byte : ℕ) (after : List ℕ) : Type 0 where
  pub shorter : length after < length bytes
  pub left : (meant : List ℕ) → Quoted bytes meant → (more : List ℕ) × (meant ≡ byte ∷ more) × Quoted after more

-- the bytes begin with the line of this text, and those follow
abbrev pub BeginsLine : List ℕ → List ℕ → List ℕ → Type 0
BeginsLine bytes line after =
    (number at : ℕ) (lines : List TextLine)
    → TextLines (number + 1) (at + (length bytes - length after)) after lines
    → TextLines number at bytes (record { number = number; at = at; bytes = line } ∷ lines)

-- the line of the text, by its spans
pub record IsSpeaking (at : ℕ) (bytes : List ℕ) (number : ℕ) (line : SpecLine) : Type 0 where
  pub tokens : List Placed
  pub bad : Option Kind
  pub reads : Reads at bytes tokens bad
  pub speaks : IsSilent tokens bad → ⊥
  pub are : spans_in line ≡ record { number = number; bad = bad; spans = map span_of tokens }

-- the line of the text, if it says anything
abbrev pub IsLine : ℕ → List ℕ → ℕ → Option SpecLine → Type 0
IsLine at bytes number None = Reads at bytes [] None
IsLine at bytes number (Some line) = IsSpeaking at bytes number line

-- the line that is there, if any
abbrev pub lines_in : Option SpecLine → List SpecLine
lines_in None = []
lines_in (Some line) = line ∷ []

-- these are the lines of the file, by their spans
pub record AreFileLines (file : List ℕ) (found : List SpecLine) (count : ℕ) : Type 0 where
  pub lines : List Line
  pub read : FileLines file lines count
  pub are : map spans_in found ≡ map spans_of lines

-- the span is that of a token of the file
pub record IsSpelled (file : List ℕ) (span : SpecToken) : Type 0 where
  pub token : Placed
  pub same : span ≡ span_of token
  pub spells : Spells file token

-- the bytes are a string, or a class
pub record IsTextToken (bytes : List ℕ) : Type 0 where
  pub meant : List ℕ
  pub form : Form bytes (text meant)

pub record IsClassToken (bytes : List ℕ) : Type 0 where
  pub set : ℕ → Bool
  pub form : Form bytes (class set)
