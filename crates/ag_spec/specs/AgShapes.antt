-- The shapes of AG's lines.
use Rattle.std.specs.Prelude.{◌≡◌, ℕ, Bool, true, false, List, [], ◌∷◌, ◌++◌, codes}
use Rattle.spec_text.specs.Lexemes.{Lexeme, word, sign}
use Rattle.expr_read.specs.Mentions.{Named, by_name, by_dollar, by_pair}
use Rattle.expr_read.specs.Notation.{IsSpoken}
use Rattle.expr_read.specs.Spoken.{Spoken}

-- two names with a point between
abbrev pub pointed : List ℕ → List ℕ → List ℕ
pointed before after = before ++ 46 ∷ after

-- an attribute as it is named: an own one, or one of a child; `$n` names none
abbrev pub name_text : Named → List ℕ
name_text (by_name w) = w
name_text (by_dollar n) = []
name_text (by_pair v w) = pointed v w

-- an attribute as a line declares it: its family's name, its own, both with a point between, its type's, and whether
-- it is synthesized
pub record SaidAttribute : Type 0 where
  pub family : List ℕ
  pub name : List ℕ
  pub called : List ℕ
  pub of : List ℕ
  pub synthesized : Bool

-- an equation as a line declares it: the name of a type or a family, the attribute that it gives, both with a colon
-- between, and what gives it
pub record SaidEquation : Type 0 where
  pub holder : List ℕ
  pub target : Named
  pub called : List ℕ
  pub value : Spoken

-- what a line of AG declares
pub data AgSaying : Type 0 where
  attribute : SaidAttribute → AgSaying
  equation : SaidEquation → AgSaying

-- the word behind an attribute's type
abbrev pub sort_word : Bool → List ℕ
sort_word true = codes "SYN"
sort_word false = codes "INH"

-- name, or name . name
pub data TargetPart : List Lexeme → Named → List Lexeme → Type 0 where
  own_target : (tokens rest : List Lexeme) (w : List ℕ) → tokens ≡ word w ∷ rest → TargetPart tokens (by_name w) rest
  child_target : (tokens rest : List Lexeme) (v w : List ℕ) → tokens ≡ word v ∷ sign (codes ".") ∷ word w ∷ rest
      → TargetPart tokens (by_pair v w) rest

-- ATTR name . name : name SYN, or INH in place of SYN
pub record AttributeLine (tokens : List Lexeme) (said : SaidAttribute) : Type 0 where
  pub is : tokens ≡ word (codes "ATTR") ∷ word said.family ∷ sign (codes ".") ∷ word said.name ∷ sign (codes ":")
      ∷ word said.of ∷ word (sort_word said.synthesized) ∷ []
  pub called : said.called ≡ pointed said.family said.name

-- EQ name : name = expr, or EQ name : name . name = expr
pub record EquationLine (tokens : List Lexeme) (said : SaidEquation) : Type 0 where
  pub behind : List Lexeme
  pub inside : List Lexeme
  pub head : tokens ≡ word (codes "EQ") ∷ word said.holder ∷ sign (codes ":") ∷ behind
  pub target : TargetPart behind said.target (sign (codes "=") ∷ inside)
  pub value : IsSpoken inside said.value []
  pub called : said.called ≡ said.holder ++ 58 ∷ name_text said.target

-- the tokens of a whole line declare this
pub data AgShape : List Lexeme → AgSaying → Type 0 where
  attribute_line : (tokens : List Lexeme) (said : SaidAttribute) → AttributeLine tokens said → AgShape tokens (attribute said)
  equation_line : (tokens : List Lexeme) (said : SaidEquation) → EquationLine tokens said → AgShape tokens (equation said)
