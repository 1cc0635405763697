-- What an expression of a level may begin with, and what may follow it.
use Rattle.std.proofs.Common.{◌≡◌, ℕ, suc, ◌-◌, ◌<◌, ◌≤◌, List, [], ◌∷◌, if◌then◌else◌, codes, refl, sym, arith}
use Rattle.std.specs.Str.{bytes_eq}
use Rattle.expr_lang.specs.declared.expr.Op.{Op}
use Rattle.expr_lang.specs.declared.expr.Op.TheVariants as op
use Rattle.spec_text.specs.Lexemes as lex
use Rattle.spec_text.specs.Lexemes.{Lexeme, word, sign}
use Rattle.section_frame.specs.Parts.{NotFirst}
use Rattle.expr_read.specs.declared.prefix.Prefix.{Prefix}
use Rattle.expr_read.specs.declared.prefix.Prefix.TheVariants as prefix
use Rattle.expr_read.specs.Spoken.{Spoken, SpokenList}
use Rattle.expr_read.specs.Notation.{IsName, glyph_of, precedence, left_of, AtLevel, tighter, an_if, joined, a_negative, a_negated, a_number, a_truth, a_falsehood, a_string, a_name, a_dollar, a_pair, an_application, a_group, Listed, last, next, MayFollow, nothing_follows, closing, comma, arrow, a_word_behind}
use Rattle.expr_read.specs.within.Wholes.{NoOperator, NoPrefix, prefix_glyph}
use Rattle.expr_read.proofs.Glyphs.{precedences}
use Rattle.expr_read.proofs.WholeParts.{is_other}

-- one more than the level of the tightest expressions that may begin so: `if` begins only those of level 0, a
-- prefix those of level 6; 0 where none begins so
abbrev pub start : List Lexeme → ℕ
start [] = 0
start (lex.word w ∷ rest) = if bytes_eq w (codes "if") then 1 else 8
start (lex.number n ∷ rest) = 8
start (lex.text bytes ∷ rest) = 8
start (lex.class set ∷ rest) = 0
start (lex.sign glyph ∷ rest) =
    if bytes_eq glyph (codes "-") then 7 else if bytes_eq glyph (codes "!") then 7 else if bytes_eq glyph (codes "$") then 8 else if bytes_eq glyph (codes "(") then 8 else 0

name_starts : (w : List ℕ) (rest : List Lexeme) → IsName w → start (word w ∷ rest) ≡ 8
name_starts w rest is = rw (is_other w (codes "if") (λ e. is.not_own (0, omega arith, sym e))) refl

-- the level of an operator's left operand is no looser
left_level : (o : Op) → precedence o ≤ left_of (precedence o)
left_level op.Or = omega arith
left_level op.And = omega arith
left_level op.Equal = omega arith
left_level op.Differ = omega arith
left_level op.Less = omega arith
left_level op.AtMost = omega arith
left_level op.Greater = omega arith
left_level op.AtLeast = omega arith
left_level op.Plus = omega arith
left_level op.Minus = omega arith
left_level op.Times = omega arith
left_level op.Quotient = omega arith
left_level op.Remainder = omega arith

starts_at : (p n : ℕ) (tokens : List Lexeme) → start tokens ≡ n → p < n → p < start tokens
starts_at p n tokens is less = rw is less

pub begins : (p : ℕ) (tokens rest : List Lexeme) (e : Spoken) → AtLevel p tokens e rest → p < start tokens
begins _ _ _ _ (tighter p tokens rest e is) = let deeper = begins (suc p) tokens rest e is in omega (arith, deeper)
begins _ _ _ _ (an_if p tokens x y z rest c a b none at test first second) = starts_at p 1 tokens (rw at refl) (omega (arith, none))
begins _ _ _ _ (joined o p tokens after rest a b level left right) =
    let deeper = begins (left_of p) tokens (sign (glyph_of o) ∷ after) a left in
    let loose : p ≤ left_of p = rw level (left_level o) in
    omega (arith, deeper, loose)
begins _ _ _ _ (a_negative p tokens after rest a six at is) = starts_at p 7 tokens (rw at refl) (omega (arith, six))
begins _ _ _ _ (a_negated p tokens after rest a six at is) = starts_at p 7 tokens (rw at refl) (omega (arith, six))
begins _ _ _ _ (a_number p n tokens rest seven at) = starts_at p 8 tokens (rw at refl) (omega (arith, seven))
begins _ _ _ _ (a_truth p tokens rest seven at) = starts_at p 8 tokens (rw at refl) (omega (arith, seven))
begins _ _ _ _ (a_falsehood p tokens rest seven at) = starts_at p 8 tokens (rw at refl) (omega (arith, seven))
begins _ _ _ _ (a_string p bytes tokens rest seven at) = starts_at p 8 tokens (rw at refl) (omega (arith, seven))
begins _ _ _ _ (a_name p w tokens rest seven ok at) = starts_at p 8 tokens (rw at (name_starts w rest ok)) (omega (arith, seven))
begins _ _ _ _ (a_dollar p n tokens rest seven at) = starts_at p 8 tokens (rw at refl) (omega (arith, seven))
begins _ _ _ _ (a_pair p v w tokens rest seven ok good at) = starts_at p 8 tokens (rw at (name_starts v (sign (codes ".") ∷ word w ∷ rest) ok)) (omega (arith, seven))
begins _ _ _ _ (an_application p w tokens after rest args seven ok at is) = starts_at p 8 tokens (rw at (name_starts w (sign (codes "(") ∷ after) ok)) (omega (arith, seven))
begins _ _ _ _ (a_group p tokens after rest a seven at is) = starts_at p 8 tokens (rw at refl) (omega (arith, seven))

-- the tightest level is 7
pub level_most : (p : ℕ) (tokens rest : List Lexeme) (e : Spoken) → AtLevel p tokens e rest → p ≤ 7
level_most _ _ _ _ (tighter p tokens rest e is) = let deeper = level_most (suc p) tokens rest e is in omega (arith, deeper)
level_most _ _ _ _ (an_if p tokens x y z rest c a b none at test first second) = omega (arith, none)
level_most _ _ _ _ (joined o p tokens after rest a b level left right) = let few = (precedences o).1 in omega (arith, few, level)
level_most _ _ _ _ (a_negative p tokens after rest a six at is) = omega (arith, six)
level_most _ _ _ _ (a_negated p tokens after rest a six at is) = omega (arith, six)
level_most _ _ _ _ (a_number p n tokens rest seven at) = omega (arith, seven)
level_most _ _ _ _ (a_truth p tokens rest seven at) = omega (arith, seven)
level_most _ _ _ _ (a_falsehood p tokens rest seven at) = omega (arith, seven)
level_most _ _ _ _ (a_string p bytes tokens rest seven at) = omega (arith, seven)
level_most _ _ _ _ (a_name p w tokens rest seven ok at) = omega (arith, seven)
level_most _ _ _ _ (a_dollar p n tokens rest seven at) = omega (arith, seven)
level_most _ _ _ _ (a_pair p v w tokens rest seven ok good at) = omega (arith, seven)
level_most _ _ _ _ (an_application p w tokens after rest args seven ok at is) = omega (arith, seven)
level_most _ _ _ _ (a_group p tokens after rest a seven at is) = omega (arith, seven)

starts_so : (p n : ℕ) (tokens more : List Lexeme) → start tokens ≡ n → p < start tokens → n ≤ p → ⊥
starts_so p n tokens more is less most = omega (arith, is, less, most)

pub no_if : (tokens rest : List Lexeme) (e : Spoken) → AtLevel 1 tokens e rest → NotFirst (word (codes "if")) tokens
no_if tokens rest e is after at = starts_so 1 1 tokens after (rw at refl) (begins 1 tokens rest e is) (omega arith)

pub no_prefix_first : (tokens rest : List Lexeme) (e : Spoken) → AtLevel 7 tokens e rest → NoPrefix tokens
no_prefix_first tokens rest e is = by
  where
    by : (s : Prefix) (after : List Lexeme) → tokens ≡ sign (prefix_glyph s) ∷ after → ⊥
    by prefix.Minus after at = starts_so 7 7 tokens after (rw at refl) (begins 7 tokens rest e is) (omega arith)
    by prefix.Not after at = starts_so 7 7 tokens after (rw at refl) (begins 7 tokens rest e is) (omega arith)

listed_begins : (tokens rest : List Lexeme) (args : SpokenList) → Listed tokens args rest → 0 < start tokens
listed_begins _ _ _ (last tokens rest a is) = begins 0 tokens rest a is
listed_begins _ _ _ (next tokens after rest a more is others) = begins 0 tokens _ a is

pub no_close : (tokens rest : List Lexeme) (args : SpokenList) → Listed tokens args rest → NotFirst (sign (codes ")")) tokens
no_close tokens rest args is after at = starts_so 0 0 tokens after (rw at refl) (listed_begins tokens rest args is) (omega arith)

-- how tightly the next token binds what stands before it: an operator by its level, `.` and `(` behind a name
-- the tightest; 0 where nothing goes on
abbrev pub bond : List Lexeme → ℕ
bond [] = 0
bond (lex.word w ∷ rest) = 0
bond (lex.number n ∷ rest) = 0
bond (lex.text bytes ∷ rest) = 0
bond (lex.class set ∷ rest) = 0
bond (lex.sign glyph ∷ rest) =
    if bytes_eq glyph (codes "||") then 1
    else if bytes_eq glyph (codes "&&") then 2
    else if bytes_eq glyph (codes "==") then 3
    else if bytes_eq glyph (codes "!=") then 3
    else if bytes_eq glyph (codes "<") then 3
    else if bytes_eq glyph (codes "<=") then 3
    else if bytes_eq glyph (codes ">") then 3
    else if bytes_eq glyph (codes ">=") then 3
    else if bytes_eq glyph (codes "+") then 4
    else if bytes_eq glyph (codes "-") then 4
    else if bytes_eq glyph (codes "*") then 5
    else if bytes_eq glyph (codes "/") then 5
    else if bytes_eq glyph (codes "%") then 5
    else if bytes_eq glyph (codes ".") then 7
    else if bytes_eq glyph (codes "(") then 7
    else 0

-- tokens that follow an expression of the level as no part of it
abbrev pub Stops : ℕ → List Lexeme → Type 0
Stops p rest = bond rest ≤ p - 1

pub bond_is : (o : Op) (rest : List Lexeme) → bond (sign (glyph_of o) ∷ rest) ≡ precedence o
bond_is op.Or rest = refl
bond_is op.And rest = refl
bond_is op.Equal rest = refl
bond_is op.Differ rest = refl
bond_is op.Less rest = refl
bond_is op.AtMost rest = refl
bond_is op.Greater rest = refl
bond_is op.AtLeast rest = refl
bond_is op.Plus rest = refl
bond_is op.Minus rest = refl
bond_is op.Times rest = refl
bond_is op.Quotient rest = refl
bond_is op.Remainder rest = refl

pub no_operator : (p : ℕ) (rest : List Lexeme) → bond rest < p → NoOperator p rest
no_operator p rest less = λ o after level at. let is : bond rest ≡ precedence o = rw at (bond_is o after) in omega (arith, is, less, level)

pub no_dot : (rest : List Lexeme) → bond rest ≤ 6 → NotFirst (sign (codes ".")) rest
no_dot rest few = λ after at. let is : bond rest ≡ 7 = rw at refl in omega (arith, is, few)

pub no_opening : (rest : List Lexeme) → bond rest ≤ 6 → NotFirst (sign (codes "(")) rest
no_opening rest few = λ after at. let is : bond rest ≡ 7 = rw at refl in omega (arith, is, few)

pub stops_line : (rest : List Lexeme) → MayFollow rest → Stops 0 rest
stops_line _ nothing_follows = omega arith
stops_line _ (closing rest) = omega arith
stops_line _ (comma rest) = omega arith
stops_line _ (arrow rest) = omega arith
stops_line _ (a_word_behind w rest among) = omega arith
