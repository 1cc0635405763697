-- The line and the column of a place in a text; places count bytes from 0, lines and columns from 1.
use Rattle.std.specs.Prelude.{◌≡◌, ℕ, ◌+◌, ◌≤◌, ◌==◌, List, length, take, count_by, not}
use Rattle.std.specs.List.{suffix_len}
use Rattle.rex_model.specs.declared.place.Place.{Place}

-- one more than the line feeds before the place
abbrev pub line_at : List ℕ → ℕ → ℕ
line_at text at = count_by (λ byte. byte == 10) (take at text) + 1

-- one more than the bytes since the last line feed before the place, or since the beginning
abbrev pub column_at : List ℕ → ℕ → ℕ
column_at text at = suffix_len (λ byte. not (byte == 10)) (take at text) + 1

-- the place of the program lies in the text or at its end, and has the line and the column there
pub record IsPlace (text : List ℕ) (place : Place) : Type 0 where
  pub within : place.at ≤ length text
  pub line : place.line ≡ line_at text place.at
  pub column : place.col ≡ column_at text place.at
