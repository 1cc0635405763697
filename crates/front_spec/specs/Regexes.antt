-- Regular expressions of a specification: what the tokens mean, and how deep the expression is.
use Rattle.std.specs.Prelude.{◌≡◌, ℕ, ◌+◌, ◌≤◌, ◌==◌, ◌&&◌, not, max, Bool, List, [], ◌∷◌, map, codes, nat_lt}
use Rattle.rex_model.specs.Language.{Re, bytes, class, star, plus, optional}
use Rattle.rex_model.specs.Meaning.{sequence_of, alternative_of}
use Rattle.spec_text.specs.Lexemes.{Lexeme, text, class as byte_set, sign}
use Rattle.section_frame.specs.Parts.{Follow, Fixed, NotFirst}

-- what an expression means, and its nesting
pub record Written : Type 0 where
  pub re : Re
  pub nesting : ℕ

-- the bytes that `.` stands for: any but 0x0A
abbrev pub is_dot_byte : ℕ → Bool
is_dot_byte byte = nat_lt byte 256 && not (byte == 10)

-- a string, a class or `.`
pub data Leaf : List Lexeme → Written → List Lexeme → Type 0 where
  a_string : (rest : List Lexeme) (said : List ℕ) → Leaf (text said ∷ rest) (record { re = bytes said; nesting = 1 }) rest
  a_class : (rest : List Lexeme) (set : ℕ → Bool) → Leaf (byte_set set ∷ rest) (record { re = class set; nesting = 1 }) rest
  a_dot : (dot : Lexeme) (rest : List Lexeme) → dot ≡ sign (codes ".") → Leaf (dot ∷ rest) (record { re = class is_dot_byte; nesting = 1 }) rest

-- a sign behind a piece
pub data Sign : Type 0 where
  a_star : Sign
  a_plus : Sign
  a_question : Sign

-- how a sign of repetition is written
abbrev pub glyph_of : Sign → Lexeme
glyph_of a_star = sign (codes "*")
glyph_of a_plus = sign (codes "+")
glyph_of a_question = sign (codes "?")

-- what a sign of repetition makes of an expression
abbrev pub repeated : Sign → Re → Re
repeated a_star = star
repeated a_plus = plus
repeated a_question = optional

-- an expression with a sign behind it, one level deeper
abbrev pub with_sign : Sign → Written → Written
with_sign s w = record { re = repeated s w.re; nesting = w.nesting + 1 }

-- the greatest nesting among these, 0 for none
abbrev pub deepest : List Written → ℕ
deepest [] = 0
deepest (one ∷ more) = max one.nesting (deepest more)

-- the regular expression of a written one
abbrev pub meaning_of : Written → Re
meaning_of w = w.re

-- parts together: one stands for itself, two or more have one more than the greatest nesting
abbrev pub joined : (List Re → Re) → List Re → ℕ → Written
joined whole [] n = record { re = whole []; nesting = n + 1 }
joined whole (one ∷ []) n = record { re = one; nesting = n }
joined whole (one ∷ next ∷ more) n = record { re = whole (one ∷ next ∷ more); nesting = n + 1 }

-- pieces one behind the other
abbrev pub row_of : List Written → Written
row_of pieces = joined sequence_of (map meaning_of pieces) (deepest pieces)

-- rows as alternatives
abbrev pub choice_of : List Written → Written
choice_of rows = joined alternative_of (map meaning_of rows) (deepest rows)

-- an expression in parentheses, one level deeper
abbrev pub group : Written → Written
group inner = record { re = inner.re; nesting = inner.nesting + 1 }

-- the tokens begin with such a part of an expression, and those follow
mutual
  -- a string, a class, `.`, or an expression in parentheses
  pub data Atom : List Lexeme → Written → List Lexeme → Type 0 where
    a_leaf : (tokens rest : List Lexeme) (w : Written) → Leaf tokens w rest → Atom tokens w rest
    a_group : (tokens inner after rest : List Lexeme) (rows : List Written) → Fixed (sign (codes "(")) tokens inner
        → Rows inner rows after → Fixed (sign (codes ")")) after rest → Atom tokens (group (choice_of rows)) rest

  -- an atom and any number of signs
  pub data Piece : List Lexeme → Written → List Lexeme → Type 0 where
    without_sign : (tokens rest : List Lexeme) (w : Written) → Atom tokens w rest → Piece tokens w rest
    before_sign : (s : Sign) (tokens after rest : List Lexeme) (w : Written) → Piece tokens w after → Fixed (glyph_of s) after rest
        → Piece tokens (with_sign s w) rest

  -- a sequence: one piece or more
  pub data Row : List Lexeme → List Written → List Lexeme → Type 0 where
    last_piece : (tokens rest : List Lexeme) (w : Written) → Piece tokens w rest → Row tokens (w ∷ []) rest
    piece_before : (tokens after rest : List Lexeme) (w : Written) (ws : List Written) → Piece tokens w after → Row after ws rest
        → Row tokens (w ∷ ws) rest

  -- alternatives: one sequence or more, with `|` between
  pub data Rows : List Lexeme → List Written → List Lexeme → Type 0 where
    last_row : (tokens rest : List Lexeme) (pieces : List Written) → Row tokens pieces rest → Rows tokens (row_of pieces ∷ []) rest
    row_before : (tokens after rest : List Lexeme) (pieces rows : List Written) → Row tokens pieces (sign (codes "|") ∷ after)
        → Rows after rows rest → Rows tokens (row_of pieces ∷ rows) rest

-- a regular expression of nesting at most 64
pub record IsRegex (tokens : List Lexeme) (w : Written) (rest : List Lexeme) : Type 0 where
  pub rows : List Written
  pub are : Rows tokens rows rest
  pub is : w ≡ choice_of rows
  pub within : w.nesting ≤ 64

-- what may follow a piece, a sequence, and an expression
abbrev pub NotSign : Follow
NotSign rest = (s : Sign) (more : List Lexeme) → Fixed (glyph_of s) rest more → ⊥

pub record EndsRow (rest : List Lexeme) : Type 0 where
  pub no_sign : NotSign rest
  pub no_leaf : (w : Written) (more : List Lexeme) → Leaf rest w more → ⊥
  pub no_open : NotFirst (sign (codes "(")) rest

pub record EndsRegex (rest : List Lexeme) : Type 0 where
  pub row : EndsRow rest
  pub no_bar : NotFirst (sign (codes "|")) rest
