-- What a class lists.
use Rattle.std.specs.Prelude.{◌≡◌, ◌⊎◌, ℕ, ◌+◌, ◌*◌, ◌/◌, ◌%◌, ◌^◌, ◌<◌, ◌≤◌, ◌==◌, ◌&&◌, not, nat_lt, Bool, IsTrue, true, List, [], ◌∷◌, ◌++◌, length, get_or, bit_and, slice_index, codes}
use Rattle.std.specs.List.{list_any}
use Rattle.std.specs.Char.{digit_value}
use Rattle.spec_text.specs.Bytes.{is_between, is_line_byte}
use Rattle.spec_text.specs.Escapes.{is_hex, named}

-- a byte that stands for itself in a class: none of `\`, `]` and `-`
abbrev pub is_class_byte : ℕ → Bool
is_class_byte byte = is_line_byte byte && (not (byte == 92) && (not (byte == 93) && not (byte == 45)))

-- a letter or sign that means a byte behind `\` in a class
abbrev pub is_class_name : ℕ → Bool
is_class_name letter = list_any (λ name. letter == name) (codes "ntr\\\"]-^")

-- one character of a class, the byte that it means, and what follows
pub data ClassChar : List ℕ → ℕ → List ℕ → Type 0 where
  plain : (byte : ℕ) (rest : List ℕ) → is_class_byte byte ≡ true → ClassChar (byte ∷ rest) byte rest
  by_name : (slash letter : ℕ) (rest : List ℕ) → slash ≡ 92 → is_class_name letter ≡ true → ClassChar (slash ∷ letter ∷ rest) (named letter) rest
  by_code : (slash x high low : ℕ) (rest : List ℕ) → slash ≡ 92 → x ≡ 120 → is_hex high ≡ true → is_hex low ≡ true
      → ClassChar (slash ∷ x ∷ high ∷ low ∷ rest) (digit_value high * 16 + digit_value low) rest

-- the bytes from low to high
pub record Span : Type 0 where
  pub low : ℕ
  pub high : ℕ

-- single characters, and ranges whose end is not less than their start
pub data Listed : List ℕ → List Span → Type 0 where
  no_spans : Listed [] []
  single : (inside rest : List ℕ) (byte : ℕ) (spans : List Span) → ClassChar inside byte rest → Listed rest spans
      → Listed inside (record { low = byte; high = byte } ∷ spans)
  range : (inside after rest : List ℕ) (low high dash : ℕ) (spans : List Span) → ClassChar inside low (dash ∷ after) → dash ≡ 45 → ClassChar after high rest
      → low ≤ high → Listed rest spans → Listed inside (record { low = low; high = high } ∷ spans)

-- the bytes of the spans
abbrev pub set_of_spans : List Span → ℕ → Bool
set_of_spans spans byte = list_any (λ span. is_between span.low span.high byte) spans

-- the set of bytes of four words of 64 bits: byte b is in it where bit b % 64 of word b / 64 is set
abbrev pub set_of : List ℕ → ℕ → Bool
set_of words byte = not (bit_and (slice_index words (byte / 64)) (2 ^ (byte % 64)) == 0)

-- a byte of the set
abbrev pub IsIn : (ℕ → Bool) → ℕ → Type 0
IsIn set byte = (byte < 256) × IsTrue (set byte)

-- the new set has the bytes of the old one, and those from low to high
pub record AddsSpan (old new : List ℕ) (low high : ℕ) : Type 0 where
  pub size : length new ≡ length old
  pub only : (byte : ℕ) → IsIn (set_of new) byte → IsIn (set_of old) byte ⊎ ((low ≤ byte) × (byte ≤ high))
  pub kept : (byte : ℕ) → IsIn (set_of old) byte → IsIn (set_of new) byte
  pub more : (byte : ℕ) → low ≤ byte → byte ≤ high → IsIn (set_of new) byte

-- no character of a class stands at the front
abbrev pub HasNoChar : List ℕ → Type 0
HasNoChar bytes = (byte : ℕ) (rest : List ℕ) → ClassChar bytes byte rest → ⊥

-- the inside of a class begins with the span
pub record BeginsSpan (bytes : List ℕ) (low high : ℕ) (after : List ℕ) : Type 0 where
  pub order : low ≤ high
  pub is_byte : high < 256
  pub shorter : length after < length bytes
  pub lists : (inside rest : List ℕ) (spans : List Span) → after ≡ inside ++ 93 ∷ rest → Listed inside spans
      → (whole : List ℕ) × (bytes ≡ whole ++ 93 ∷ rest) × Listed whole (record { low = low; high = high } ∷ spans)
  pub back : (inside rest : List ℕ) (spans : List Span) → bytes ≡ inside ++ 93 ∷ rest → Listed inside spans
      → (more : List ℕ) × (others : List Span) × (spans ≡ record { low = low; high = high } ∷ others) × (after ≡ more ++ 93 ∷ rest) × Listed more others

-- the inside of a class has no span more
abbrev pub HasNoSpan : List ℕ → Type 0
HasNoSpan bytes = (inside rest : List ℕ) (spans : List Span) → bytes ≡ inside ++ 93 ∷ rest → Listed inside spans → inside ≡ []

-- the bytes behind `[` are a class's inside, `]` and the rest; the words have its bytes
pub record IsClassOf (bytes words rest : List ℕ) : Type 0 where
  pub inside : List ℕ
  pub spans : List Span
  pub are : bytes ≡ inside ++ 93 ∷ rest
  pub some : 0 < length inside
  pub listed : Listed inside spans
  pub same : set_of words ≡ set_of_spans spans
  pub size : length words ≡ 4

-- no list of spans up to a closing bracket stands at the front
abbrev pub HasNoClass : List ℕ → Type 0
HasNoClass bytes = (inside rest : List ℕ) (spans : List Span) → bytes ≡ inside ++ 93 ∷ rest → 0 < length inside → Listed inside spans → ⊥

-- the words have no bit in common, and all together
abbrev pub IsFlipped : ℕ → ℕ → Type 0
IsFlipped word other = (k : ℕ) → k < 64 → (bit_and other (2 ^ k) == 0) ≡ not (bit_and word (2 ^ k) == 0)

-- the bytes between the brackets of a class, and its set: what they list, or behind `^` all other bytes
pub data ClassSays : List ℕ → (ℕ → Bool) → Type 0 where
  these : (inside : List ℕ) (spans : List Span) → Listed inside spans → 0 < length inside → (get_or inside 0 0 ≡ 94 → ⊥) → ClassSays inside (set_of_spans spans)
  others : (hat : ℕ) (inside : List ℕ) (spans : List Span) → hat ≡ 94 → Listed inside spans → 0 < length inside
      → ClassSays (hat ∷ inside) (λ byte. nat_lt byte 256 && not (set_of_spans spans byte))

-- the bytes behind `[` begin with the inside of a class and `]`, and the words have its bytes
pub record IsSetAt (bytes words rest : List ℕ) : Type 0 where
  pub inside : List ℕ
  pub are : bytes ≡ inside ++ 93 ∷ rest
  pub says : ClassSays inside (set_of words)

-- no class up to a closing bracket stands at the front
abbrev pub HasNoSet : List ℕ → Type 0
HasNoSet bytes = (inside rest : List ℕ) (set : ℕ → Bool) → bytes ≡ inside ++ 93 ∷ rest → ClassSays inside set → ⊥
