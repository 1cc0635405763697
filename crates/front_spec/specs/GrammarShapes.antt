-- The shape of a grammar's lines, under LALR and ELL alike.
use Rattle.std.specs.Prelude.{◌≡◌, ℕ, List, ◌∷◌, map, codes}
use Rattle.spec_text.specs.Lexemes.{Lexeme, word, sign}

-- a grammar rule: its label, its left side, its right side
pub record SaidProduction : Type 0 where
  pub label : List ℕ
  pub left : List ℕ
  pub right : List (List ℕ)

-- `RULE name : name = rep(name)`
abbrev pub ProductionLine : List Lexeme → SaidProduction → Type 0
ProductionLine tokens said =
    tokens ≡ word (codes "RULE") ∷ word said.label ∷ sign (codes ":") ∷ word said.left ∷ sign (codes "=")
    ∷ map word said.right
