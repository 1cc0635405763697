-- What the outside tells of a file's bytes and of a sink's, and what a read or a write does to it.
use Rattle.std.specs.Prelude.{◌≡◌, ◌≢◌, ℕ, ◌-◌, ◌<◌, ◌≤◌, ◌↔◌, List, length, min, take, drop, Option, Some, Result, IfOk, IfSome}

-- the first n bytes of `into` are those of the file `told` from byte `at` on, and n is 0 exactly at or past its end
pub record IsPart (told : List ℕ) (at n : ℕ) (into : List ℕ) : Type 0 where
  pub bytes : take n into ≡ take n (drop at told)
  pub end : (n ≡ 0) ↔ (length told ≤ at)

-- how many bytes from byte `at` on there are for this room
abbrev pub part_len : List ℕ → ℕ → ℕ → ℕ
part_len told at room = min room (length told - at)

-- a read from byte `at` on gives that part of the file, where the file is told
abbrev pub ReadsAt : {E : Type 0} → Option (List ℕ) → ℕ → Result ℕ E → List ℕ → Type 0
ReadsAt told at result into = IfOk result (λ n. IfSome told (λ all. IsPart all at n into))

-- these are all bytes of the file, where it is told
abbrev pub IsTold : Option (List ℕ) → List ℕ → Type 0
IsTold told bytes = IfSome told (λ all. bytes ≡ all)

-- the file has more bytes than `limit`, where it is told
abbrev pub IsLonger : Option (List ℕ) → ℕ → Type 0
IsLonger told limit = IfSome told (λ all. limit < length all)

-- the file has at most `limit` bytes, where it is told
abbrev pub FitsIn : Option (List ℕ) → ℕ → Type 0
FitsIn told limit = IfSome told (λ all. length all ≤ limit)

-- each name is told the same as before
abbrev pub SameContents : (List ℕ → Option (List ℕ)) → (List ℕ → Option (List ℕ)) → Type 0
SameContents old new = (name : List ℕ) → new name ≡ old name

-- the name has these bytes now, and each other name is told the same as before
pub record AddsFile (old new : List ℕ → Option (List ℕ)) (name bytes : List ℕ) : Type 0 where
  pub added : new name ≡ Some bytes
  pub others : (other : List ℕ) → other ≢ name → new other ≡ old other
