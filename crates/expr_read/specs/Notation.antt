-- How expressions are written: levels of operators, loosest first, and what may stand behind one.
use Rattle.std.specs.Prelude.{◌≡◌, ℕ, suc, ◌≤◌, true, false, List, [], ◌∷◌, codes, Contains, if◌then◌else◌, nat_eq}
use Rattle.expr_lang.specs.declared.expr.Op.{Op}
use Rattle.expr_lang.specs.declared.expr.Op.TheVariants as op
use Rattle.spec_text.specs.Lexemes as lex
use Rattle.spec_text.specs.Lexemes.{Lexeme, word, sign}
use Rattle.expr_read.specs.Spoken.{Spoken, SpokenList, number, truth, string, name, dollar, pair, negative, negated, binary, if_then, applied, grouped, no_spoken, and_spoken, nesting}

-- the words of an expression, and those that may follow one; none of them is a name
abbrev pub own_words : List (List ℕ)
own_words = codes "if" ∷ codes "then" ∷ codes "else" ∷ codes "true" ∷ codes "false" ∷ []

-- words that may stand behind an expression, and so end it
abbrev pub words_behind : List (List ℕ)
words_behind = codes "IF" ∷ codes "LET" ∷ codes "WHEN" ∷ codes "COST" ∷ codes "EARLY" ∷ codes "EMIT" ∷ []

pub record IsName (w : List ℕ) : Type 0 where
  pub not_own : Contains own_words w → ⊥
  pub not_behind : Contains words_behind w → ⊥

-- how an operator is written
abbrev pub glyph_of : Op → List ℕ
glyph_of op.Or = codes "||"
glyph_of op.And = codes "&&"
glyph_of op.Equal = codes "=="
glyph_of op.Differ = codes "!="
glyph_of op.Less = codes "<"
glyph_of op.AtMost = codes "<="
glyph_of op.Greater = codes ">"
glyph_of op.AtLeast = codes ">="
glyph_of op.Plus = codes "+"
glyph_of op.Minus = codes "-"
glyph_of op.Times = codes "*"
glyph_of op.Quotient = codes "/"
glyph_of op.Remainder = codes "%"

-- the precedence of an operator: the greater, the tighter it binds. An `if` is of level 0, prefixes are of
-- level 6, and all else that is no operator is of level 7
abbrev pub precedence : Op → ℕ
precedence op.Or = 1
precedence op.And = 2
precedence op.Equal = 3
precedence op.Differ = 3
precedence op.Less = 3
precedence op.AtMost = 3
precedence op.Greater = 3
precedence op.AtLeast = 3
precedence op.Plus = 4
precedence op.Minus = 4
precedence op.Times = 5
precedence op.Quotient = 5
precedence op.Remainder = 5

-- the level of an operator's left operand: its own, so that it groups to the left; but comparisons aren't
-- chained
abbrev pub left_of : ℕ → ℕ
left_of p = if nat_eq p 3 then 4 else p

-- the tokens begin with an expression of the level, or a tighter one, and those follow
mutual
  pub data AtLevel : ℕ → List Lexeme → Spoken → List Lexeme → Type 0 where
    tighter : (p : ℕ) (tokens rest : List Lexeme) (e : Spoken) → AtLevel (suc p) tokens e rest → AtLevel p tokens e rest
    an_if : (p : ℕ) (tokens after_if after_then after_else rest : List Lexeme) (c a b : Spoken) → p ≡ 0
        → tokens ≡ word (codes "if") ∷ after_if → AtLevel 0 after_if c (word (codes "then") ∷ after_then)
        → AtLevel 0 after_then a (word (codes "else") ∷ after_else) → AtLevel 0 after_else b rest
        → AtLevel p tokens (if_then c a b) rest
    joined : (o : Op) (p : ℕ) (tokens after rest : List Lexeme) (a b : Spoken) → p ≡ precedence o
        → AtLevel (left_of p) tokens a (sign (glyph_of o) ∷ after) → AtLevel (suc p) after b rest
        → AtLevel p tokens (binary o a b) rest
    a_negative : (p : ℕ) (tokens after rest : List Lexeme) (a : Spoken) → p ≡ 6 → tokens ≡ sign (codes "-") ∷ after
        → AtLevel 6 after a rest → AtLevel p tokens (negative a) rest
    a_negated : (p : ℕ) (tokens after rest : List Lexeme) (a : Spoken) → p ≡ 6 → tokens ≡ sign (codes "!") ∷ after
        → AtLevel 6 after a rest → AtLevel p tokens (negated a) rest
    a_number : (p n : ℕ) (tokens rest : List Lexeme) → p ≡ 7 → tokens ≡ lex.number n ∷ rest → AtLevel p tokens (number n) rest
    a_truth : (p : ℕ) (tokens rest : List Lexeme) → p ≡ 7 → tokens ≡ word (codes "true") ∷ rest
        → AtLevel p tokens (truth true) rest
    a_falsehood : (p : ℕ) (tokens rest : List Lexeme) → p ≡ 7 → tokens ≡ word (codes "false") ∷ rest
        → AtLevel p tokens (truth false) rest
    a_string : (p : ℕ) (bytes : List ℕ) (tokens rest : List Lexeme) → p ≡ 7 → tokens ≡ lex.text bytes ∷ rest
        → AtLevel p tokens (string bytes) rest
    a_name : (p : ℕ) (w : List ℕ) (tokens rest : List Lexeme) → p ≡ 7 → IsName w → tokens ≡ word w ∷ rest
        → AtLevel p tokens (name w) rest
    a_dollar : (p n : ℕ) (tokens rest : List Lexeme) → p ≡ 7 → tokens ≡ sign (codes "$") ∷ lex.number n ∷ rest
        → AtLevel p tokens (dollar n) rest
    a_pair : (p : ℕ) (v w : List ℕ) (tokens rest : List Lexeme) → p ≡ 7 → IsName v → IsName w
        → tokens ≡ word v ∷ sign (codes ".") ∷ word w ∷ rest → AtLevel p tokens (pair v w) rest
    an_application : (p : ℕ) (w : List ℕ) (tokens after rest : List Lexeme) (args : SpokenList) → p ≡ 7 → IsName w
        → tokens ≡ word w ∷ sign (codes "(") ∷ after → Arguments after args (sign (codes ")") ∷ rest)
        → AtLevel p tokens (applied w args) rest
    a_group : (p : ℕ) (tokens after rest : List Lexeme) (a : Spoken) → p ≡ 7 → tokens ≡ sign (codes "(") ∷ after
        → AtLevel 0 after a (sign (codes ")") ∷ rest) → AtLevel p tokens (grouped a) rest

  -- none, or expressions with `,` between
  pub data Arguments : List Lexeme → SpokenList → List Lexeme → Type 0 where
    no_arguments : (tokens : List Lexeme) → Arguments tokens no_spoken tokens
    some_arguments : (tokens rest : List Lexeme) (args : SpokenList) → Listed tokens args rest → Arguments tokens args rest

  -- one or more expressions with `,` between
  pub data Listed : List Lexeme → SpokenList → List Lexeme → Type 0 where
    last : (tokens rest : List Lexeme) (a : Spoken) → AtLevel 0 tokens a rest → Listed tokens (and_spoken a no_spoken) rest
    next : (tokens after rest : List Lexeme) (a : Spoken) (more : SpokenList) → AtLevel 0 tokens a (sign (codes ",") ∷ after)
        → Listed after more rest → Listed tokens (and_spoken a more) rest

-- the tokens begin with an expression, of nesting 64 at most, and those follow
pub record IsSpoken (tokens : List Lexeme) (e : Spoken) (rest : List Lexeme) : Type 0 where
  pub at_level : AtLevel 0 tokens e rest
  pub few : nesting e ≤ 64

-- what may follow an expression of a line: nothing, `)`, `,`, `=>`, or one of the six words
pub data MayFollow : List Lexeme → Type 0 where
  nothing_follows : MayFollow []
  closing : (rest : List Lexeme) → MayFollow (sign (codes ")") ∷ rest)
  comma : (rest : List Lexeme) → MayFollow (sign (codes ",") ∷ rest)
  arrow : (rest : List Lexeme) → MayFollow (sign (codes "=>") ∷ rest)
  a_word_behind : (w : List ℕ) (rest : List Lexeme) → Contains words_behind w → MayFollow (word w ∷ rest)
