-- Maps as lists of pairs, the newest first.
use Rattle.std.specs.Prelude.{ℕ, ℤ, List, [], ◌∷◌, map, Option, Some, None, if◌then◌else◌}
use Rattle.std.specs.Str.{bytes_eq}
use Rattle.value_store.specs.Texts.{text_of}
use Rattle.value_store.specs.declared.text.Text.{Text}

-- a pair of a map, as it was put
pub record Pair : Type 0 where
  pub key : Text
  pub number : ℤ

-- a pair of a map, with the bytes of its text
pub record Entry : Type 0 where
  pub key : List ℕ
  pub number : ℤ

-- an entry of a map with its key's bytes
abbrev pub entry_of : List ℕ → List ℕ → Pair → Entry
entry_of source literals pair = record { key = text_of source literals pair.key; number = pair.number }

-- the pairs of a map, with their bytes
abbrev pub entries : List ℕ → List ℕ → List Pair → List Entry
entries source literals pairs = map (entry_of source literals) pairs

-- the number of the first pair with the text; None where there is none
abbrev pub first_with : List ℕ → List Entry → Option ℤ
first_with key [] = None
first_with key (e ∷ es) = if bytes_eq e.key key then Some e.number else first_with key es
