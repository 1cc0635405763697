-- Files in memory: a list of names, each with its bytes.
use Rattle.std.specs.Prelude.{ℕ, Bool, List, [], ◌∷◌, ◌++◌, Option, bytes_eq, option_map, position, slice_index_or, slice_set}
use Rattle.std.specs.Option.{option_map_or}

-- a file: its name and its bytes
abbrev pub File : Type 0
File = List ℕ × List ℕ

-- the file has this name
abbrev pub has_name : List ℕ → File → Bool
has_name name file = bytes_eq file.0 name

-- where the file of this name stands
abbrev pub place_in : List File → List ℕ → Option ℕ
place_in files name = position (has_name name) files

-- the bytes of the file at a place
abbrev pub bytes_at : List File → ℕ → List ℕ
bytes_at files place = (slice_index_or files place ([], [])).1

-- the bytes of the file of this name, where there is one
abbrev pub bytes_in : List File → List ℕ → Option (List ℕ)
bytes_in files name = option_map (bytes_at files) (place_in files name)

-- the files with this one in place of the one of its name, or else as the last
abbrev pub with_file : List File → File → List File
with_file files file = option_map_or (λ place. slice_set files place file) (place_in files file.0) (files ++ file ∷ [])
