-- How a run ends: the status, with what stands in `out` and `err` then.
use Rattle.std.specs.Prelude.{◌≡◌, ◌≢◌, ℕ, ◌<◌, ◌⊎◌, List, [], ◌∷◌, ◌++◌, length, take, Option, codes}
use Rattle.ck_base.specs.Lines.{line_of, status_of}
use Rattle.ck_base.specs.declared.refusal.Refusal.{Refusal}
use Rattle.ck_base.specs.declared.status.Status.{Status}
use Rattle.ck_base.specs.declared.status.Status.TheVariants.{Done, Usage, Device, Memory}
use Rattle.std.specs.Io.KnownBytes.{Appends}
use Rattle.ck_io.specs.Faults.{Rose}
use Rattle.ck_chain.specs.Outcome.{Outcome, output, refused}
use Rattle.ck_tool.specs.Words.{AreRight, NeedMemory}

-- a sink before and after a run: what it tells of its bytes, and its count of faults
pub record Sunk : Type 0 where
  pub old : Option (List ℕ)
  pub new : Option (List ℕ)
  pub before : ℕ
  pub now : ℕ

-- the same of two states of a sink, by what it tells and what it counts
abbrev pub sunk : {S : Type 0} → (S → Option (List ℕ)) → (S → ℕ) → S → S → Sunk
sunk written faults old new =
    record { old = written old; new = written new; before = faults old; now = faults new }

-- nothing was written
abbrev pub Kept : Sunk → Type 0
Kept sunk = sunk.new ≡ sunk.old

-- the sink took all of these bytes
abbrev pub Gained : Sunk → List ℕ → Type 0
Gained sunk bytes = Appends sunk.old sunk.new bytes

-- the count of faults of the sink rose
abbrev pub FaultsRose : Sunk → Type 0
FaultsRose sunk = Rose sunk.before sunk.now

-- the sink took the first of these bytes and not all, and its count rose
abbrev pub GainedPart : Sunk → List ℕ → Type 0
GainedPart sunk bytes =
    (written : ℕ) × (written < length bytes) × Gained sunk (take written bytes) × FaultsRose sunk

-- a line with its end
abbrev pub ended : List ℕ → List ℕ
ended line = line ++ 10 ∷ []

-- the sink took the line, and the run ends in the status meant for that; or it took a part, and the
-- run ends in status 8
pub data Tells (line : List ℕ) (meant : Status) (sunk : Sunk) : Status → Type 0 where
  told : Gained sunk (ended line) → Tells line meant sunk meant
  cut : GainedPart sunk (ended line) → Tells line meant sunk Device

-- how a run ends. `wants` are the answers that the words and files want, and `read_failed` says that
-- the count of a file that the run reads rose
pub data Ran (words : List (List ℕ)) (wants : Outcome → Type 0) (read_failed : Type 0) (out err : Sunk)
    : Status → Type 0 where
  -- the output was written whole
  done : (bytes : List ℕ) → wants (output bytes) → Gained out bytes → Kept err
      → Ran words wants read_failed out err Done
  -- the line of a refusal was told
  refusing : (ends : Status) (r : Refusal) → wants (refused r) → Kept out
      → Tells (line_of r) (status_of r) err ends → Ran words wants read_failed out err ends
  -- memory was wanting
  memory : (ends : Status) → NeedMemory words → Kept out → Tells (codes "out of memory") Memory err ends
      → Ran words wants read_failed out err ends
  -- the count of a file rose
  reading : (ends : Status) → read_failed → Kept out
      → Tells (codes "device: read fault") Device err ends → Ran words wants read_failed out err ends
  -- the count of `out` rose
  writing : (ends : Status) (bytes : List ℕ) → wants (output bytes) → GainedPart out bytes
      → Tells (codes "device: write fault") Device err ends → Ran words wants read_failed out err ends

-- status 1 comes exactly where the words aren't right, unless the count of `err` rose
pub record UsageExactly (words : List (List ℕ)) (err : Sunk) (ends : Status) : Type 0 where
  pub only : ends ≡ Usage → AreRight words → ⊥
  pub always : (AreRight words → ⊥) → (ends ≡ Usage) ⊎ ((ends ≡ Device) × FaultsRose err)

-- a run whose status isn't 0 leaves `out` as it was, unless the count of `out` rose
abbrev pub WritesOnlyDone : Sunk → Status → Type 0
WritesOnlyDone out ends = ends ≢ Done → Kept out ⊎ ((ends ≡ Device) × FaultsRose out)

-- the run gave this answer whole
abbrev pub Answers : Outcome → Sunk → Sunk → Status → Type 0
Answers (output bytes) out err ends = (ends ≡ Done) × Gained out bytes × Kept err
Answers (refused r) out err ends = (ends ≡ status_of r) × Kept out × Gained err (ended (line_of r))

-- words that need memory, and it was wanting
pub record WantedMemory (words : List (List ℕ)) (out err : Sunk) (ends : Status) : Type 0 where
  pub needs : NeedMemory words
  pub is_memory : ends ≡ Memory
  pub kept : Kept out
  pub told : Gained err (ended (codes "out of memory"))

-- no count of faults rose in the run: of the files that it reads, of `out` and of `err`
pub record NoneRose (read_failed : Type 0) (out err : Sunk) : Type 0 where
  pub files : read_failed → ⊥
  pub output : FaultsRose out → ⊥
  pub lines : FaultsRose err → ⊥
