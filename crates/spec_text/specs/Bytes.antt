-- The bytes of a line of a specification.
use Rattle.std.specs.Prelude.{ℕ, ◌==◌, Bool, ◌&&◌, ◌||◌, not, nat_le, codes}
use Rattle.std.specs.List.{list_any}

-- a byte from low to high
abbrev pub is_between : ℕ → ℕ → ℕ → Bool
is_between low high byte = nat_le low byte && nat_le byte high

-- a blank or a tab
abbrev pub is_blank : ℕ → Bool
is_blank byte = (byte == 32) || (byte == 9)

-- a letter or `_`
abbrev pub is_letter : ℕ → Bool
is_letter byte = is_between 65 90 byte || (is_between 97 122 byte || (byte == 95))

-- a decimal digit
abbrev pub is_digit : ℕ → Bool
is_digit byte = is_between 48 57 byte

-- a letter, a digit or `_`
abbrev pub is_word_byte : ℕ → Bool
is_word_byte byte = is_letter byte || is_digit byte

-- a byte that may stand in a line: a tab, or from 0x20 to 0x7E
abbrev pub is_line_byte : ℕ → Bool
is_line_byte byte = (byte == 9) || is_between 32 126 byte

-- a byte that stands for itself in a string: none of `"` and `\`
abbrev pub is_text_byte : ℕ → Bool
is_text_byte byte = is_line_byte byte && (not (byte == 34) && not (byte == 92))

-- a byte that is a sign by itself
abbrev pub is_sign_byte : ℕ → Bool
is_sign_byte byte = list_any (λ sign. byte == sign) (codes "(),:.=<>+-*/%!|?$")

-- two bytes that are a sign together
abbrev pub is_sign_pair : ℕ → ℕ → Bool
is_sign_pair first second =
    ((second == 61) && list_any (λ sign. first == sign) (codes "=!<>"))
    || (((first == 61) && (second == 62))
    || (((first == 38) && (second == 38)) || ((first == 124) && (second == 124))))
