-- The printed form of the tokens of a text.
use Rattle.std.specs.Prelude.{ℕ, List, [], ◌∷◌, ◌++◌, length, flat_map, codes, slice_range, slice_index_or}
use Rattle.std.specs.Fmt.{decimal}
use Rattle.quoting.specs.Quoted.{quoted}
use Rattle.rex_model.specs.Place.{line_at, column_at}
use Rattle.rex_model.specs.Run.{Token}

-- `line:col ` of a place
abbrev pub place_text : List ℕ → ℕ → List ℕ
place_text text at = decimal (line_at text at) ++ (58 ∷ (decimal (column_at text at) ++ 32 ∷ []))

-- the line of a token: its place, its name and its text
abbrev pub token_line : List (List ℕ) → List ℕ → Token → List ℕ
token_line names text token =
    place_text text token.from
    ++ (slice_index_or names token.number [] ++ (32 ∷ (quoted (slice_range text token.from token.to) ++ 10 ∷ [])))

-- the line of END, which stands at the end of the text
abbrev pub end_line : List ℕ → List ℕ
end_line text = place_text text (length text) ++ (codes "END" ++ 10 ∷ [])

-- the tokens of a text, a line each, and END
abbrev pub tokens_text : List (List ℕ) → List ℕ → List Token → List ℕ
tokens_text names text tokens = flat_map (token_line names text) tokens ++ end_line text
