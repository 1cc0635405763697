-- Expressions that nothing behind goes on with, as a reader goes through them: from left to right, by the
-- tokens that are next. Only contracts within the crate cite these.
use Rattle.std.specs.Prelude.{◌≡◌, ℕ, suc, ◌<◌, ◌≤◌, true, false, List, [], ◌∷◌, codes, Option, Some, None, if◌then◌else◌}
use Rattle.std.specs.Str.{bytes_eq}
use Rattle.expr_lang.specs.declared.expr.Op.{Op}
use Rattle.spec_text.specs.Lexemes as lex
use Rattle.spec_text.specs.Lexemes.{Lexeme, word, sign}
use Rattle.section_frame.specs.Parts.{Part, NotFirst}
use Rattle.expr_read.specs.declared.prefix.Prefix.{Prefix}
use Rattle.expr_read.specs.declared.prefix.Prefix.TheVariants as prefix
use Rattle.expr_read.specs.Spoken.{Spoken, SpokenList, number, truth, string, name, dollar, pair, negative, negated, binary, if_then, applied, grouped, no_spoken, and_spoken, nesting, deepest}
use Rattle.expr_read.specs.Notation.{IsName, glyph_of, precedence}

-- a number behind `$`
abbrev pub dollar_of : List Lexeme → Option (Spoken × List Lexeme)
dollar_of [] = None
dollar_of (lex.number n ∷ rest) = Some (dollar n, rest)
dollar_of (lex.word w ∷ rest) = None
dollar_of (lex.text bytes ∷ rest) = None
dollar_of (lex.class set ∷ rest) = None
dollar_of (lex.sign glyph ∷ rest) = None

-- the expression without parts and names with which the tokens begin, and what follows it
abbrev pub leaf_of : List Lexeme → Option (Spoken × List Lexeme)
leaf_of [] = None
leaf_of (lex.number n ∷ rest) = Some (number n, rest)
leaf_of (lex.word w ∷ rest) =
    if bytes_eq w (codes "true") then Some (truth true, rest) else if bytes_eq w (codes "false") then Some (truth false, rest) else None
leaf_of (lex.text bytes ∷ rest) = Some (string bytes, rest)
leaf_of (lex.class set ∷ rest) = None
leaf_of (lex.sign glyph ∷ rest) = if bytes_eq glyph (codes "$") then dollar_of rest else None

-- how a prefix is written, and what it makes of an expression
abbrev pub prefix_glyph : Prefix → List ℕ
prefix_glyph prefix.Minus = codes "-"
prefix_glyph prefix.Not = codes "!"

-- an expression under a prefix
abbrev pub with_prefix : Prefix → Spoken → Spoken
with_prefix prefix.Minus e = negative e
with_prefix prefix.Not e = negated e

-- no operator of the level is next
abbrev pub NoOperator : ℕ → List Lexeme → Type 0
NoOperator p tokens = (o : Op) (after : List Lexeme) → p ≡ precedence o → tokens ≡ sign (glyph_of o) ∷ after → ⊥

-- no prefix stands at the front of these tokens
abbrev pub NoPrefix : List Lexeme → Type 0
NoPrefix tokens = (s : Prefix) (after : List Lexeme) → tokens ≡ sign (prefix_glyph s) ∷ after → ⊥

mutual
  -- the tokens begin with an expression of the level, or a tighter one, with which nothing behind goes on
  pub data Whole : ℕ → List Lexeme → Spoken → List Lexeme → Type 0 where
    loosest : (p : ℕ) (tokens rest : List Lexeme) (e : Spoken) → p ≡ 0 → Loosest tokens e rest → Whole p tokens e rest
    chained : (p : ℕ) (tokens between rest : List Lexeme) (a e : Spoken) → 1 ≤ p → p ≤ 5 → Whole (suc p) tokens a between
        → Goes p a between e rest → Whole p tokens e rest
    prefixed : (p : ℕ) (tokens rest : List Lexeme) (e : Spoken) → p ≡ 6 → Prefixed tokens e rest → Whole p tokens e rest
    primary : (p : ℕ) (tokens rest : List Lexeme) (e : Spoken) → p ≡ 7 → Primary tokens e rest → Whole p tokens e rest

  -- an `if`, or operators
  pub data Loosest : List Lexeme → Spoken → List Lexeme → Type 0 where
    conditional : (tokens after_if after_then after_else rest : List Lexeme) (c a b : Spoken)
        → tokens ≡ word (codes "if") ∷ after_if → Whole 0 after_if c (word (codes "then") ∷ after_then)
        → Whole 0 after_then a (word (codes "else") ∷ after_else) → Whole 0 after_else b rest → Loosest tokens (if_then c a b) rest
    no_conditional : (tokens rest : List Lexeme) (e : Spoken) → NotFirst (word (codes "if")) tokens → Whole 1 tokens e rest
        → Loosest tokens e rest

  -- behind the expression the tokens go on with operators of the level and their right operands; all of it is
  -- the other expression
  pub data Goes : ℕ → Spoken → List Lexeme → Spoken → List Lexeme → Type 0 where
    ends : (p : ℕ) (a : Spoken) (tokens : List Lexeme) → NoOperator p tokens → Goes p a tokens a tokens
    goes : (o : Op) (p : ℕ) (a b e : Spoken) (tokens after between rest : List Lexeme) → p ≡ precedence o
        → tokens ≡ sign (glyph_of o) ∷ after → Whole (suc p) after b between → (p ≡ 3 → NoOperator 3 between)
        → Goes p (binary o a b) between e rest → Goes p a tokens e rest

  pub data Prefixed : List Lexeme → Spoken → List Lexeme → Type 0 where
    behind_prefix : (s : Prefix) (tokens after rest : List Lexeme) (a : Spoken) → tokens ≡ sign (prefix_glyph s) ∷ after
        → Whole 6 after a rest → Prefixed tokens (with_prefix s a) rest
    no_prefix : (tokens rest : List Lexeme) (e : Spoken) → NoPrefix tokens → Whole 7 tokens e rest → Prefixed tokens e rest

  pub data Primary : List Lexeme → Spoken → List Lexeme → Type 0 where
    a_leaf : (tokens rest : List Lexeme) (e : Spoken) → leaf_of tokens ≡ Some (e, rest) → Primary tokens e rest
    a_group : (tokens after rest : List Lexeme) (a : Spoken) → tokens ≡ sign (codes "(") ∷ after
        → Whole 0 after a (sign (codes ")") ∷ rest) → Primary tokens (grouped a) rest
    named : (w : List ℕ) (tokens behind rest : List Lexeme) (e : Spoken) → IsName w → tokens ≡ word w ∷ behind
        → Named w behind e rest → Primary tokens e rest

  -- what the tokens behind a name make of it
  pub data Named : List ℕ → List Lexeme → Spoken → List Lexeme → Type 0 where
    alone : (w : List ℕ) (behind : List Lexeme) → NotFirst (sign (codes ".")) behind → NotFirst (sign (codes "(")) behind
        → Named w behind (name w) behind
    paired : (w v : List ℕ) (behind rest : List Lexeme) → IsName v → behind ≡ sign (codes ".") ∷ word v ∷ rest
        → Named w behind (pair w v) rest
    called : (w : List ℕ) (behind after rest : List Lexeme) (args : SpokenList) → behind ≡ sign (codes "(") ∷ after
        → Inside after args rest → Named w behind (applied w args) rest

  -- arguments and the `)` behind them
  pub data Inside : List Lexeme → SpokenList → List Lexeme → Type 0 where
    none_inside : (tokens rest : List Lexeme) → tokens ≡ sign (codes ")") ∷ rest → Inside tokens no_spoken rest
    some_inside : (tokens rest : List Lexeme) (args : SpokenList) → NotFirst (sign (codes ")")) tokens → Row tokens args rest
        → Inside tokens args rest

  pub data Row : List Lexeme → SpokenList → List Lexeme → Type 0 where
    one : (tokens between rest : List Lexeme) (a : Spoken) (more : SpokenList) → Whole 0 tokens a between
        → Others between more rest → Row tokens (and_spoken a more) rest

  -- the arguments behind one, and the `)`
  pub data Others : List Lexeme → SpokenList → List Lexeme → Type 0 where
    closed : (tokens rest : List Lexeme) → tokens ≡ sign (codes ")") ∷ rest → Others tokens no_spoken rest
    others : (tokens after rest : List Lexeme) (more : SpokenList) → tokens ≡ sign (codes ",") ∷ after → Row after more rest
        → Others tokens more rest

-- an operator of the level that is written so, and that there is none
pub record IsOperator (p : ℕ) (tokens : List Lexeme) (o : Op) (rest : List Lexeme) : Type 0 where
  pub level : p ≡ precedence o
  pub first : tokens ≡ sign (glyph_of o) ∷ rest

-- this token is no operator
abbrev pub NotWritten : Lexeme → Type 0
NotWritten token = (o : Op) → token ≡ sign (glyph_of o) → ⊥

-- behind `if`, and behind `(`
abbrev pub Conditional : Part Spoken
Conditional after e rest = Loosest (word (codes "if") ∷ after) e rest

-- what stands behind an open parenthesis, read as a primary with it
abbrev pub Grouping : Part Spoken
Grouping after e rest = Primary (sign (codes "(") ∷ after) e rest

-- an expression is read, whose nesting is this and at most so much
pub record IsRead (P : Part Spoken) (left : ℕ) (tokens : List Lexeme) (e : Spoken) (deep : ℕ) (rest : List Lexeme) : Type 0 where
  pub is : P tokens e rest
  pub deep_is : deep ≡ nesting e
  pub within : deep ≤ left

-- no expression of so much nesting is there
abbrev pub NoneRead : Part Spoken → ℕ → List Lexeme → Type 0
NoneRead P left tokens = (e : Spoken) (rest : List Lexeme) → P tokens e rest → nesting e ≤ left → ⊥

-- arguments are read, the nesting of the deepest is this, and less than so much
pub record AreRead (P : Part SpokenList) (left : ℕ) (tokens : List Lexeme) (args : SpokenList) (deep : ℕ) (rest : List Lexeme) : Type 0 where
  pub are : P tokens args rest
  pub deep_is : deep ≡ deepest args
  pub within : deep < left

-- no list of arguments of less than this nesting stands at the front
abbrev pub NoneAre : Part SpokenList → ℕ → List Lexeme → Type 0
NoneAre P left tokens = (args : SpokenList) (rest : List Lexeme) → P tokens args rest → deepest args < left → ⊥
