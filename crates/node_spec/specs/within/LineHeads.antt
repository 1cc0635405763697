-- Parts of AST's lines, as they are read one after the other. Only contracts within the crate cite these.
use Rattle.std.specs.Prelude.{◌≡◌, ℕ, List, [], ◌∷◌, codes}
use Rattle.spec_text.specs.Lexemes.{Lexeme, word, sign}
use Rattle.node_spec.specs.AstShapes.{SaidItem, ItemsPart}
use Rattle.expr_read.specs.Notation.{IsSpoken}
use Rattle.expr_read.specs.Spoken.{Spoken}

-- a word, a name, and no more
abbrev pub IsNamed : List ℕ → List Lexeme → List ℕ → Type 0
IsNamed head tokens name = tokens ≡ word head ∷ word name ∷ []

-- a NODE line of a nonterminal and a family
abbrev pub IsNodeLine : List Lexeme → List ℕ → List ℕ → Type 0
IsNodeLine tokens nonterminal name =
    tokens ≡ word (codes "NODE") ∷ word nonterminal ∷ sign (codes ":") ∷ word name ∷ []

-- a type's name and its base, before what stands in its parentheses
abbrev pub IsTypeHead : List Lexeme → List ℕ → List ℕ → List Lexeme → Type 0
IsTypeHead tokens name base inside =
    tokens ≡ word (codes "TYPE") ∷ word name ∷ sign (codes ":") ∷ word base ∷ sign (codes "(") ∷ inside

-- the end of a type's line
abbrev pub closed : List Lexeme
closed = sign (codes ")") ∷ []

pub record IsTypeLine (tokens : List Lexeme) (name base : List ℕ) (items : List SaidItem) : Type 0 where
  pub inside : List Lexeme
  pub head : IsTypeHead tokens name base inside
  pub are : ItemsPart inside items closed

-- a rule's label, before what it builds
abbrev pub IsBuildHead : List Lexeme → List ℕ → List Lexeme → Type 0
IsBuildHead tokens label inside = tokens ≡ word (codes "BUILD") ∷ word label ∷ sign (codes "=") ∷ inside

pub record IsBuildLine (tokens : List Lexeme) (label : List ℕ) (e : Spoken) : Type 0 where
  pub inside : List Lexeme
  pub head : IsBuildHead tokens label inside
  pub is : IsSpoken inside e []
