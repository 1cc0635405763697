-- How many bytes tokens have, and the tokens of lines.
use Rattle.std.specs.Prelude.{ℕ, ◌+◌, ◌-◌, List, [], ◌∷◌}
use Rattle.spec_text.specs.Reading.{Placed}
use Rattle.spec_text.specs.Lines.{Line}

-- how many bytes tokens have
abbrev pub token_bytes : List Placed → ℕ
token_bytes [] = 0
token_bytes (token ∷ tokens) = (token.to - token.from) + token_bytes tokens

-- how many bytes the tokens of lines have
abbrev pub line_bytes : List Line → ℕ
line_bytes [] = 0
line_bytes (line ∷ lines) = token_bytes line.tokens + line_bytes lines
