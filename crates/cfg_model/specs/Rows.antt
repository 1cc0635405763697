-- Sets of numbers, and rows of them, that have exactly the numbers of which something holds.
use Rattle.std.specs.Prelude.{◌≡◌, ℕ, List, [], All, length, slice_index_or}
use Rattle.ck_base.specs.BitSet.{BitSet, Has}

-- the set has the numbers of which P holds, and no others; it has room for the numbers below the count
pub record IsSetOf (count : ℕ) (P : ℕ → Type 0) (set : BitSet) : Type 0 where
  pub size : set.size ≡ count
  pub only : (n : ℕ) → Has set n → P n
  pub all : (n : ℕ) → P n → Has set n

-- a set for numbers past the last row
abbrev pub no_row : BitSet
no_row = record { size = 0; words = [] }

-- the row of a number
abbrev pub row : List BitSet → ℕ → BitSet
row rows n = slice_index_or rows n no_row

-- the number t is in row n
abbrev pub In : List BitSet → ℕ → ℕ → Type 0
In rows n t = Has (row rows n) t

-- there are so many rows, each with room for so many numbers
pub record AreRows (count width : ℕ) (rows : List BitSet) : Type 0 where
  pub count_is : length rows ≡ count
  pub widths : All (λ set. set.size ≡ width) rows

-- row n has the numbers t for which P n t holds, and no others
pub record AreRowsOf (count width : ℕ) (P : ℕ → ℕ → Type 0) (rows : List BitSet) : Type 0 where
  pub are : AreRows count width rows
  pub only : (n t : ℕ) → In rows n t → P n t
  pub all : (n t : ℕ) → P n t → In rows n t
