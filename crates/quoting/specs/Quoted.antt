-- The printed form of a text: its bytes in quotes.
use Rattle.std.specs.Prelude.{ℕ, ◌+◌, ◌/◌, ◌%◌, ◌==◌, ◌&&◌, if◌then◌else◌, nat_le, nat_lt, List, [], ◌∷◌, ◌++◌, flat_map}

-- a hexadecimal digit, in lower case
abbrev pub hex_digit : ℕ → ℕ
hex_digit n = if nat_lt n 10 then 48 + n else 87 + n

-- a byte of a quoted text: `\"`, `\\`, itself from 0x20 to 0x7E, else `\x` and two digits
abbrev pub quoted_byte : ℕ → List ℕ
quoted_byte byte =
    if byte == 34 then 92 ∷ 34 ∷ [] else
    if byte == 92 then 92 ∷ 92 ∷ [] else
    if nat_le 32 byte && nat_le byte 126 then byte ∷ [] else
    92 ∷ 120 ∷ hex_digit (byte / 16) ∷ hex_digit (byte % 16) ∷ []

-- a text in quotes
abbrev pub quoted : List ℕ → List ℕ
quoted text = 34 ∷ (flat_map quoted_byte text ++ 34 ∷ [])
