-- Counts of faults: numbers that only rise, and stand still at the last one.
use Rattle.std.specs.Prelude.{◌≡◌, ℕ, ◌+◌, ◌-◌, ◌^◌, ◌≤◌, min, List}

-- a count after one more; it stands still at the last number of 64 bits
abbrev pub one_more : ℕ → ℕ
one_more count = min (count + 1) (2 ^ 64 - 1)

-- the count grew, or stands at its last number
abbrev pub Rose : ℕ → ℕ → Type 0
Rose before now = one_more before ≤ now

-- each name's count is as before
abbrev pub SameFaults : (List ℕ → ℕ) → (List ℕ → ℕ) → Type 0
SameFaults before now = (name : List ℕ) → now name ≡ before name

-- no name's count fell
abbrev pub NoneFell : (List ℕ → ℕ) → (List ℕ → ℕ) → Type 0
NoneFell before now = (name : List ℕ) → before name ≤ now name
