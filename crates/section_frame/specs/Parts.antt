-- Parts of a line: what a part says, and the tokens that follow it. A shape of a section is written with
-- these words almost as it stands in the notation.
use Rattle.std.specs.Prelude.{◌≡◌, ℕ, List, [], ◌∷◌, Option, Some, None, codes}
use Rattle.spec_text.specs.Lexemes.{Lexeme, word, number, text, sign}

-- the tokens begin with the part, that says this, and those follow
abbrev pub Part : Type 0 → Type 1
Part V = List Lexeme → V → List Lexeme → Type 0

-- one token that stands for itself
abbrev pub Fixed : Lexeme → List Lexeme → List Lexeme → Type 0
Fixed token tokens rest = tokens ≡ token ∷ rest

-- a name
abbrev pub Name : Part (List ℕ)
Name tokens name rest = tokens ≡ word name ∷ rest

-- a number
abbrev pub Number : Part ℕ
Number tokens n rest = tokens ≡ number n ∷ rest

-- a string, by the bytes that it means
abbrev pub Text : Part (List ℕ)
Text tokens bytes rest = tokens ≡ text bytes ∷ rest

-- opt(P): the part may be missing
pub data Opt {V : Type 0} (P : Part V) : List Lexeme → Option V → List Lexeme → Type 0 where
  absent : (tokens : List Lexeme) → Opt P tokens None tokens
  present : (tokens rest : List Lexeme) (v : V) → P tokens v rest → Opt P tokens (Some v) rest

-- one or more, with a fixed token between
pub data ListBy {V : Type 0} (sep : Lexeme) (P : Part V)
    : List Lexeme → List V → List Lexeme → Type 0 where
  last : (tokens rest : List Lexeme) (v : V) → P tokens v rest → ListBy sep P tokens (v ∷ []) rest
  next : (tokens after rest : List Lexeme) (v : V) (vs : List V) → P tokens v (sep ∷ after)
      → ListBy sep P after vs rest → ListBy sep P tokens (v ∷ vs) rest

-- the sign between the parts of a list
abbrev pub comma : Lexeme
comma = sign (codes ",")

-- list(P): one or more, with `,` between
abbrev pub ListOf : {V : Type 0} → Part V → Part (List V)
ListOf P = ListBy comma P

-- one or more, one after the other
pub data Some1 {V : Type 0} (P : Part V) : List Lexeme → List V → List Lexeme → Type 0 where
  last_one : (tokens rest : List Lexeme) (v : V) → P tokens v rest → Some1 P tokens (v ∷ []) rest
  one_more : (tokens after rest : List Lexeme) (v : V) (vs : List V) → P tokens v after
      → Some1 P after vs rest → Some1 P tokens (v ∷ vs) rest

-- one part behind a fixed token
pub record Behind {V : Type 0} (token : Lexeme) (P : Part V) (tokens : List Lexeme) (v : V)
    (rest : List Lexeme) : Type 0 where
  pub after : List Lexeme
  pub first : Fixed token tokens after
  pub is : P after v rest

-- one part before a fixed token
pub record Before {V : Type 0} (P : Part V) (token : Lexeme) (tokens : List Lexeme) (v : V)
    (rest : List Lexeme) : Type 0 where
  pub after : List Lexeme
  pub is : P tokens v after
  pub end : Fixed token after rest

-- one part and then another
pub record Then {V W : Type 0} (P : Part V) (Q : Part W) (tokens : List Lexeme) (both : V × W)
    (rest : List Lexeme) : Type 0 where
  pub after : List Lexeme
  pub first : P tokens both.0 after
  pub second : Q after both.1 rest

-- one part or the other
pub data Or {V : Type 0} (P Q : Part V) : List Lexeme → V → List Lexeme → Type 0 where
  first : (tokens rest : List Lexeme) (v : V) → P tokens v rest → Or P Q tokens v rest
  second : (tokens rest : List Lexeme) (v : V) → Q tokens v rest → Or P Q tokens v rest

-- what a part says, seen by a function
pub record Seen {V W : Type 0} (f : V → W) (P : Part V) (tokens : List Lexeme) (w : W)
    (rest : List Lexeme) : Type 0 where
  pub v : V
  pub is : P tokens v rest
  pub said : w ≡ f v

-- what may follow a part
abbrev pub Follow : Type 1
Follow = List Lexeme → Type 0

-- whatever follows
abbrev pub Anything : Follow
Anything rest = Unit {0}

-- nothing follows
abbrev pub Nothing : Follow
Nothing rest = rest ≡ []

-- the tokens don't begin with this one
abbrev pub NotFirst : Lexeme → Follow
NotFirst token rest = (more : List Lexeme) → rest ≡ token ∷ more → ⊥

-- the tokens don't begin with a string
abbrev pub NotText : Follow
NotText rest = (bytes : List ℕ) (more : List Lexeme) → Text rest bytes more → ⊥

-- the part is read, and with such a rest in no other way
pub record Reading {V : Type 0} (P : Part V) (F : Follow) (tokens : List Lexeme) (v : V)
    (rest : List Lexeme) : Type 0 where
  pub is : P tokens v rest
  pub only : (w : V) (more : List Lexeme) → F more → P tokens w more → (w ≡ v) × (more ≡ rest)

-- with such a rest the part isn't there
abbrev pub NoReading : {V : Type 0} → Part V → Follow → List Lexeme → Type 0
NoReading {V} P F tokens = (v : V) (rest : List Lexeme) → F rest → P tokens v rest → ⊥
