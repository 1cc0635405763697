-- Patterns over nodes, as they are written in rules.
use Rattle.std.specs.Prelude.{◌≡◌, ℕ, ◌-◌, ◌<◌, Bool, true, false, List, ◌∷◌, codes, Contains, if◌then◌else◌}
use Rattle.std.specs.Str.{bytes_eq}
use Rattle.spec_text.specs.Lexemes as lex
use Rattle.spec_text.specs.Lexemes.{Lexeme, word, sign}
use Rattle.section_frame.specs.Parts.{NotFirst}
use Rattle.expr_read.specs.Notation.{words_behind}

-- a pattern, and a list of them
mutual
  pub data Pattern : Type 0 where
    -- `_`, which any value matches
    anything : Pattern
    name : List ℕ → Pattern
    number : ℕ → Pattern
    truth : Bool → Pattern
    string : List ℕ → Pattern
    -- a name before patterns in parentheses
    tree : List ℕ → Patterns → Pattern
    -- one name and `:` before such a tree
    named_tree : List ℕ → List ℕ → Patterns → Pattern

  pub data Patterns : Type 0 where
    no_patterns : Patterns
    and_pattern : Pattern → Patterns → Patterns

-- a word that may be a name in a pattern: any but those that may follow one
abbrev pub IsPatternName : List ℕ → Type 0
IsPatternName w = Contains words_behind w → ⊥

-- the pattern that a word alone is
abbrev pub word_alone : List ℕ → Pattern
word_alone w =
    if bytes_eq w (codes "_") then anything else
    if bytes_eq w (codes "true") then truth true else
    if bytes_eq w (codes "false") then truth false else
    name w

-- the tokens begin with a pattern of this nesting at most, and those follow. A word alone has neither `(` nor `:`
-- behind it
mutual
  pub data PatternAt : ℕ → List Lexeme → Pattern → List Lexeme → Type 0 where
    a_number : (left n : ℕ) (tokens rest : List Lexeme) → 0 < left → tokens ≡ lex.number n ∷ rest
        → PatternAt left tokens (number n) rest
    a_string : (left : ℕ) (bytes : List ℕ) (tokens rest : List Lexeme) → 0 < left → tokens ≡ lex.text bytes ∷ rest
        → PatternAt left tokens (string bytes) rest
    a_word : (left : ℕ) (w : List ℕ) (tokens rest : List Lexeme) (p : Pattern) → 0 < left → IsPatternName w
        → tokens ≡ word w ∷ rest → NotFirst (sign (codes "(")) rest → NotFirst (sign (codes ":")) rest
        → p ≡ word_alone w → PatternAt left tokens p rest
    a_tree : (left : ℕ) (w : List ℕ) (tokens after rest : List Lexeme) (parts : Patterns) → 0 < left → IsPatternName w
        → tokens ≡ word w ∷ sign (codes "(") ∷ after → PatternsIn (left - 1) after parts rest
        → PatternAt left tokens (tree w parts) rest
    a_named_tree : (left : ℕ) (v w : List ℕ) (tokens after rest : List Lexeme) (parts : Patterns) → 0 < left
        → IsPatternName v → IsPatternName w → tokens ≡ word v ∷ sign (codes ":") ∷ word w ∷ sign (codes "(") ∷ after
        → PatternsIn (left - 1) after parts rest → PatternAt left tokens (named_tree v w parts) rest

  -- none, or patterns with `,` between; and the `)` behind them
  pub data PatternsIn : ℕ → List Lexeme → Patterns → List Lexeme → Type 0 where
    none_in : (left : ℕ) (tokens rest : List Lexeme) → tokens ≡ sign (codes ")") ∷ rest → PatternsIn left tokens no_patterns rest
    some_in : (left : ℕ) (tokens rest : List Lexeme) (parts : Patterns) → PatternRow left tokens parts rest
        → PatternsIn left tokens parts rest

  -- one or more, and the `)`
  pub data PatternRow : ℕ → List Lexeme → Patterns → List Lexeme → Type 0 where
    one_before : (left : ℕ) (tokens between rest : List Lexeme) (p : Pattern) (more : Patterns) → PatternAt left tokens p between
        → PatternsBehind left between more rest → PatternRow left tokens (and_pattern p more) rest

  -- the patterns behind one, and the `)`
  pub data PatternsBehind : ℕ → List Lexeme → Patterns → List Lexeme → Type 0 where
    closed : (left : ℕ) (tokens rest : List Lexeme) → tokens ≡ sign (codes ")") ∷ rest
        → PatternsBehind left tokens no_patterns rest
    others : (left : ℕ) (tokens after rest : List Lexeme) (more : Patterns) → tokens ≡ sign (codes ",") ∷ after
        → PatternRow left after more rest → PatternsBehind left tokens more rest

-- the tokens begin with a pattern, of nesting 64 at most, and those follow
abbrev pub IsPattern : List Lexeme → Pattern → List Lexeme → Type 0
IsPattern tokens p rest = PatternAt 64 tokens p rest
