-- Rows of numbers, and what the calls on them change.
use Rattle.std.specs.Prelude.{◌≡◌, ◌≢◌, ℕ, List, [], ◌∷◌, ◌++◌, length, slice_index_or, Vec, map}
use Rattle.std.specs.Global.{Global}

-- the rows of vectors
abbrev pub rows_of : List (Vec ℕ Global) → List (List ℕ)
rows_of vectors = map (λ row. row.items) vectors

-- row k; those past the end are empty
abbrev pub row_at : List (List ℕ) → ℕ → List ℕ
row_at rows k = slice_index_or rows k []

-- the number went to the end of row k, and no other row changed
pub record Pushes (old new : List (List ℕ)) (k n : ℕ) : Type 0 where
  pub size : length new ≡ length old
  pub here : row_at new k ≡ row_at old k ++ (n ∷ [])
  pub elsewhere : (i : ℕ) → i ≢ k → row_at new i ≡ row_at old i

-- row k was taken out, an empty one is in its place, and no other row changed
pub record Takes (old new : List (List ℕ)) (k : ℕ) (taken : List ℕ) : Type 0 where
  pub size : length new ≡ length old
  pub here : taken ≡ row_at old k
  pub elsewhere : (i : ℕ) → i ≢ k → row_at new i ≡ row_at old i
