-- Lines and tokens by their spans: the places of a token's first byte and of the byte after it.
use Rattle.std.specs.Prelude.{◌≡◌, ℕ, ◌-◌, ◌≤◌, List, length, take, drop, map, Option, All}
use Rattle.ck_base.specs.declared.fault.Kind.{Kind}
use Rattle.spec_text.specs.Lexemes.{Lexeme, word, number, text, class, sign, Form}
use Rattle.spec_text.specs.Reading.{Placed, IsSmall}
use Rattle.spec_text.specs.Lines.{Line}
use Rattle.spec_text.specs.declared.token.SpecSort.{SpecSort}
use Rattle.spec_text.specs.declared.token.SpecSort.TheVariants.{Word, Number, Text, Class, Sign}
use Rattle.spec_text.specs.declared.token.SpecToken.{SpecToken}
use Rattle.spec_text.specs.declared.line.SpecLine.{SpecLine}

-- the sort of a token
abbrev pub sort_of : Lexeme → SpecSort
sort_of (word bytes) = Word
sort_of (number n) = Number
sort_of (text bytes) = Text
sort_of (class set) = Class
sort_of (sign bytes) = Sign

-- a token's sort and place
abbrev pub span_of : Placed → SpecToken
span_of token = record { sort = sort_of token.said; from = token.from; to = token.to }

-- a line by its spans
pub record SpanLine : Type 0 where
  pub number : ℕ
  pub bad : Option Kind
  pub spans : List SpecToken

-- a stored line with its tokens' places
abbrev pub spans_in : SpecLine → SpanLine
spans_in line = record { number = line.number; bad = line.bad; spans = line.tokens.items }

-- a line with its tokens' places
abbrev pub spans_of : Line → SpanLine
spans_of line =
    record { number = line.number; bad = line.bad; spans = map span_of line.tokens }

-- the bytes of the file from one place to before another
abbrev pub bytes_from : List ℕ → ℕ → ℕ → List ℕ
bytes_from file from to = take (to - from) (drop from file)

-- the bytes at the token's place say what the token says
pub record Spells (file : List ℕ) (token : Placed) : Type 0 where
  pub order : token.from ≤ token.to
  pub fits : token.to ≤ length file
  pub form : Form (bytes_from file token.from token.to) token.said
  pub small : IsSmall token.said

-- the program's line is this line of the file
pub record IsLineOf (file : List ℕ) (have : SpecLine) (line : Line) : Type 0 where
  pub same : spans_in have ≡ spans_of line
  pub spelled : All (Spells file) line.tokens

-- the program's lines are these lines of the file
pub record AreLinesOf (file : List ℕ) (have : List SpecLine) (lines : List Line) : Type 0 where
  pub same : map spans_in have ≡ map spans_of lines
  pub spelled : All (λ line. All (Spells file) line.tokens) lines
