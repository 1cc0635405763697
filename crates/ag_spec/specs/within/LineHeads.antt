-- Parts of AG's lines, as they are read one after the other. Only contracts within the crate cite these.
use Rattle.std.specs.Prelude.{◌≡◌, ℕ, Bool, List, [], ◌∷◌, codes}
use Rattle.spec_text.specs.Lexemes.{Lexeme, word, sign}
use Rattle.ag_spec.specs.AgShapes.{sort_word}

-- the tokens of an attribute's line
abbrev pub IsAttributeHead : List Lexeme → List ℕ → List ℕ → List ℕ → Bool → Type 0
IsAttributeHead tokens family name of synthesized =
    tokens ≡ word (codes "ATTR") ∷ word family ∷ sign (codes ".") ∷ word name ∷ sign (codes ":") ∷ word of
    ∷ word (sort_word synthesized) ∷ []

-- the holder of an equation, before what it gives
abbrev pub IsEquationHead : List Lexeme → List ℕ → List Lexeme → Type 0
IsEquationHead tokens holder behind = tokens ≡ word (codes "EQ") ∷ word holder ∷ sign (codes ":") ∷ behind

-- the sign behind what an equation gives
abbrev pub equals : List Lexeme → List Lexeme
equals inside = sign (codes "=") ∷ inside
