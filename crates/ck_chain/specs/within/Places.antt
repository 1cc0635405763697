-- What is printed at a place of a source.
use Rattle.std.specs.Prelude.{ℕ, List, [], ◌∷◌, ◌++◌, codes}
use Rattle.std.specs.Fmt.{decimal}
use Rattle.quoting.specs.Quoted.{quoted}
use Rattle.rex_model.specs.declared.place.Place.{Place}

-- `line:col ` of the place
abbrev pub printed_place : Place → List ℕ
printed_place place = decimal place.line ++ (58 ∷ (decimal place.col ++ 32 ∷ []))

-- the line of a token that begins at the place
abbrev pub printed_token : Place → List ℕ → List ℕ → List ℕ
printed_token place name text = printed_place place ++ (name ++ (32 ∷ (quoted text ++ 10 ∷ [])))

-- the line of END at the place
abbrev pub printed_end : Place → List ℕ
printed_end place = printed_place place ++ (codes "END" ++ 10 ∷ [])
