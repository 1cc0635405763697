-- Regular expressions as the reader goes over them: no deeper within than the whole may be, with a count of the
-- parentheses that may still be opened. Only contracts within the crate cite these.
use Rattle.std.specs.Prelude.{ℕ, zero, suc, ◌≤◌, List, codes}
use Rattle.spec_text.specs.Lexemes.{Lexeme, sign}
use Rattle.section_frame.specs.Parts.{Part, Fixed, Some1, ListBy, Behind, Before, Or, Seen}
use Rattle.front_spec.specs.Regexes.{Written, Leaf, Sign, glyph_of, with_sign, row_of, choice_of, group}

-- an atom and any number of signs
pub data Signed (Atom : Part Written) : List Lexeme → Written → List Lexeme → Type 0 where
  plain : (tokens rest : List Lexeme) (w : Written) → Atom tokens w rest → Signed Atom tokens w rest
  signed : (s : Sign) (tokens after rest : List Lexeme) (w : Written) → Signed Atom tokens w after → Fixed (glyph_of s) after rest
      → Signed Atom tokens (with_sign s w) rest

-- the nesting is at most 64
pub record Limited (P : Part Written) (tokens : List Lexeme) (w : Written) (rest : List Lexeme) : Type 0 where
  pub is : P tokens w rest
  pub within : w.nesting ≤ 64

-- an atom with any signs behind it, within the limit of nesting
abbrev pub PieceOver : Part Written → Part Written
PieceOver Atom = Limited (Signed Atom)

-- one piece or more
abbrev pub RowOver : Part Written → Part Written
RowOver Atom = Seen row_of (Some1 (PieceOver Atom))

-- rows with bars between, within the limit of nesting
abbrev pub RegexOver : Part Written → Part Written
RegexOver Atom = Limited (Seen choice_of (ListBy (sign (codes "|")) (RowOver Atom)))

-- an atom, in which so many parentheses may stand round one another
abbrev pub AtomIn : ℕ → Part Written
AtomIn zero = Leaf
AtomIn (suc depth) = Or Leaf (Seen group (Behind (sign (codes "(")) (Before (RegexOver (AtomIn depth)) (sign (codes ")")))))

-- an expression of a line: each pair of parentheses adds one, so no more than 64 stand round one another
abbrev pub RegexIn : ℕ → Part Written
RegexIn depth = RegexOver (AtomIn depth)
