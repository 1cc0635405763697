-- What files in memory are, which of their calls fail, and what they tell.
use Rattle.std.specs.Prelude.{◌≡◌, ℕ, ◌⊎◌, List, Option, None, Contains, option_map, unwrap_or, slice_index}
use Rattle.ck_io.specs.Faults.{one_more}
use Rattle.ck_io.specs.Folder.{File, place_in, bytes_in}

-- the files, the counts of faults of each in their order and of all other names together, and the calls so far,
-- of which those with the numbers in `fails` fail
pub record FilesInMemory : Type 0 where
  pub files : List File
  pub counts : List ℕ
  pub others : ℕ
  pub calls : ℕ
  pub fails : List ℕ

-- the bytes that a name was given last
abbrev pub contents_of : FilesInMemory → List ℕ → Option (List ℕ)
contents_of memory name = bytes_in memory.files name

-- the count of a name
abbrev pub faults_of : FilesInMemory → List ℕ → ℕ
faults_of memory name = unwrap_or (option_map (slice_index memory.counts) (place_in memory.files name)) memory.others

-- the names share a count: they are one name, or both are missing
abbrev pub ShareCount : FilesInMemory → List ℕ → List ℕ → Type 0
ShareCount memory name other = place_in memory.files name ≡ place_in memory.files other

-- a read of this name has failed: its count has one more, and each count that isn't its own is as before
pub record CountsFault (old new : FilesInMemory) (name : List ℕ) : Type 0 where
  pub counted : (other : List ℕ) → ShareCount old name other → faults_of new other ≡ one_more (faults_of old other)
  pub others : (other : List ℕ) → (ShareCount old name other → ⊥) → faults_of new other ≡ faults_of old other

-- the next read of this name fails: it is one of the calls that fail, or the file is missing
abbrev pub IsFailingRead : FilesInMemory → List ℕ → Type 0
IsFailingRead memory name = Contains memory.fails (one_more memory.calls) ⊎ (contents_of memory name ≡ None)
