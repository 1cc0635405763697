-- What the reader of patterns tells of tokens. Only contracts within the crate cite this.
use Rattle.std.specs.Prelude.{◌≡◌, ℕ, List, ◌∷◌, codes}
use Rattle.spec_text.specs.Lexemes.{Lexeme, sign, word}
use Rattle.expr_read.specs.Patterns.{IsPatternName, Pattern, PatternAt, Patterns, PatternsIn, PatternRow}

-- no pattern of so much nesting is there
abbrev pub NoPattern : ℕ → List Lexeme → Type 0
NoPattern left tokens = (p : Pattern) (rest : List Lexeme) → PatternAt left tokens p rest → ⊥

-- behind this word, the tokens are a pattern with it
abbrev pub PatternWith : ℕ → List ℕ → List Lexeme → Pattern → List Lexeme → Type 0
PatternWith left w behind p rest = PatternAt left (word w ∷ behind) p rest

-- behind this word no pattern with it goes on
abbrev pub NoPatternWith : ℕ → List ℕ → List Lexeme → Type 0
NoPatternWith left w behind = (p : Pattern) (rest : List Lexeme) → PatternWith left w behind p rest → ⊥

-- no patterns and `)` are there
abbrev pub NoPatternsIn : ℕ → List Lexeme → Type 0
NoPatternsIn left tokens = (ps : Patterns) (rest : List Lexeme) → PatternsIn left tokens ps rest → ⊥

-- no pattern and more and `)` are there
abbrev pub NoPatternRow : ℕ → List Lexeme → Type 0
NoPatternRow left tokens = (ps : Patterns) (rest : List Lexeme) → PatternRow left tokens ps rest → ⊥

-- the tokens begin with this name and `(`
pub record IsHead (tokens : List Lexeme) (w : List ℕ) (after : List Lexeme) : Type 0 where
  pub named : IsPatternName w
  pub first : tokens ≡ word w ∷ sign (codes "(") ∷ after

-- the tokens don't begin with a name and `(`
abbrev pub NoHead : List Lexeme → Type 0
NoHead tokens = (w : List ℕ) (after : List Lexeme) → IsHead tokens w after → ⊥
