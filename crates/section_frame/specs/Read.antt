-- Parts of a line that stand more than once.
use Rattle.std.specs.Prelude.{◌≡◌, List, [], ◌∷◌, ◌++◌, Option, None, Some}
use Rattle.spec_text.specs.Lexemes.{Lexeme}
use Rattle.section_frame.specs.Parts.{Part, Follow, NotFirst, Reading, comma}

-- rep(P): none or more, one after the other
pub data Rep {V : Type 0} (P : Part V) : List Lexeme → List V → List Lexeme → Type 0 where
  no_part : (tokens : List Lexeme) → Rep P tokens [] tokens
  one_part : (tokens after rest : List Lexeme) (v : V) (vs : List V) → P tokens v after → Rep P after vs rest
      → Rep P tokens (v ∷ vs) rest

-- what may follow a list: what may follow its last part, and no comma
abbrev pub EndsList : Follow → Follow
EndsList E rest = E rest × NotFirst comma rest

-- what may follow parts: what may follow the last one, and no further part
abbrev pub EndsParts : {V : Type 0} → Part V → Follow → Follow
EndsParts {V} P E rest = E rest × ((v : V) (more : List Lexeme) → P rest v more → ⊥)

-- what is read, seen by a function, where it is there
abbrev pub perhaps : {V W : Type 0} → (V → W) → Option V → Option W
perhaps f None = None
perhaps f (Some v) = Some (f v)

-- a part is read, and stands behind the others now
pub record GainsPart {V : Type 0} (P : Part V) (E : Follow) (tokens rest : List Lexeme) (old new : List V) : Type 0 where
  pub v : V
  pub reading : Reading P E tokens v rest
  pub are : new ≡ old ++ v ∷ []
