-- The language of a regular expression: the set of its words.
use Rattle.std.specs.Prelude.{◌≡◌, ℕ, ◌<◌, ◌⊎◌, Bool, IsTrue, List, [], ◌∷◌, ◌++◌}

-- a regular expression; sequences and alternatives have two parts
pub data Re : Type 0 where
  -- no word at all
  none : Re
  bytes : List ℕ → Re
  -- a set of bytes, which tells of each byte whether it is in
  class : (ℕ → Bool) → Re
  sequence : Re → Re → Re
  alternative : Re → Re → Re
  star : Re → Re
  plus : Re → Re
  optional : Re → Re

-- the byte is in the set
abbrev pub IsIn : (ℕ → Bool) → ℕ → Type 0
IsIn set byte = (byte < 256) × IsTrue (set byte)

-- any number of words of a language, one after the other
pub data Repeats (words : List ℕ → Type 0) : List ℕ → Type 0 where
  no_more : Repeats words []
  one_more : (u v : List ℕ) → words u → Repeats words v → Repeats words (u ++ v)

-- the word is in the language of the expression
abbrev pub Language : Re → List ℕ → Type 0
Language none w = ⊥
Language (bytes string) w = w ≡ string
Language (class set) w = (byte : ℕ) × (w ≡ byte ∷ []) × IsIn set byte
Language (sequence r s) w = (u : List ℕ) × (v : List ℕ) × (w ≡ u ++ v) × Language r u × Language s v
Language (alternative r s) w = Language r w ⊎ Language s w
Language (star r) w = Repeats (Language r) w
Language (plus r) w = (u : List ℕ) × (v : List ℕ) × (w ≡ u ++ v) × Language r u × Repeats (Language r) v
Language (optional r) w = (w ≡ []) ⊎ Language r w
