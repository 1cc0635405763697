-- What files that never fail tell.
use Rattle.std.specs.Prelude.{ℕ, List, [], Option, Some, unwrap_or}
use Rattle.ck_io.specs.Folder.{File, bytes_in}

-- the bytes that a name was given last; a name that was never added has none
abbrev pub contents_or_empty : List File → List ℕ → Option (List ℕ)
contents_or_empty files name = Some (unwrap_or (bytes_in files name) [])
