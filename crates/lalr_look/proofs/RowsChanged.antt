-- Rows of numbers of which one changed.
use Rattle.std.proofs.Common.{◌≡◌, ◌≢◌, ℕ, zero, suc, ◌<◌, ◌⊎◌, List, [], ◌∷◌, ◌++◌, length, refl, sym, ap, ◌∙◌, arith, slice_set, Vec, Global}
use Rattle.lalr_look.specs.within.Rows.{rows_of, row_at, Pushes, Takes}

pub same_or_other : (k from : ℕ) → (k ≡ from) ⊎ (k ≢ from)
same_or_other k from = grind arith

pub row_here : (rows : List (Vec ℕ Global)) (k : ℕ) (row : Vec ℕ Global) → k < length rows → row_at (rows_of (slice_set rows k row)) k ≡ row.items
row_here [] k row low = absurd (omega (arith, low))
row_here (r ∷ rows) zero row low = refl
row_here (r ∷ rows) (suc k) row low = row_here rows k row (omega (arith, low))

pub row_elsewhere : (rows : List (Vec ℕ Global)) (k i : ℕ) (row : Vec ℕ Global) → i ≢ k
    → row_at (rows_of (slice_set rows k row)) i ≡ row_at (rows_of rows) i
row_elsewhere [] k i row differ = refl
row_elsewhere (r ∷ rows) zero zero row differ = absurd (differ refl)
row_elsewhere (r ∷ rows) zero (suc i) row differ = refl
row_elsewhere (r ∷ rows) (suc k) zero row differ = refl
row_elsewhere (r ∷ rows) (suc k) (suc i) row differ = row_elsewhere rows k i row (λ e. differ (ap suc e))

pub rows_count : (rows : List (Vec ℕ Global)) (k : ℕ) (row : Vec ℕ Global) → length (rows_of (slice_set rows k row)) ≡ length (rows_of rows)
rows_count [] k row = refl
rows_count (r ∷ rows) zero row = refl
rows_count (r ∷ rows) (suc k) row = ap suc (rows_count rows k row)

pub pushed : (rows : List (Vec ℕ Global)) (k n : ℕ) (before after : Vec ℕ Global) → k < length rows
    → row_at (rows_of rows) k ≡ before.items → after.items ≡ before.items ++ (n ∷ []) → Pushes (rows_of rows) (rows_of (slice_set rows k after)) k n
pushed rows k n before after low old new =
    record {
      size = rows_count rows k after;
      here = row_here rows k after low ∙ (new ∙ ap (λ l. l ++ (n ∷ [])) (sym old));
      elsewhere = λ i differ. row_elsewhere rows k i after differ;
    }

pub taken : (rows : List (Vec ℕ Global)) (k : ℕ) (before after : Vec ℕ Global)
    → row_at (rows_of rows) k ≡ before.items → Takes (rows_of rows) (rows_of (slice_set rows k after)) k before.items
taken rows k before after old =
    record { size = rows_count rows k after; here = sym old; elsewhere = λ i differ. row_elsewhere rows k i after differ }

-- one empty row more
pub empty_rows : (rows after : List (Vec ℕ Global)) (row : Vec ℕ Global) → ((k : ℕ) → row_at (rows_of rows) k ≡ []) → row.items ≡ []
    → after ≡ rows ++ (row ∷ []) → (k : ℕ) → row_at (rows_of after) k ≡ []
empty_rows rows after row none e f k = ap (λ l. row_at (rows_of l) k) f ∙ go rows none k
  where
    go : (rows : List (Vec ℕ Global)) → ((k : ℕ) → row_at (rows_of rows) k ≡ []) → (k : ℕ) → row_at (rows_of (rows ++ (row ∷ []))) k ≡ []
    go [] none zero = e
    go [] none (suc k) = refl
    go (r ∷ rows) none zero = none 0
    go (r ∷ rows) none (suc k) = go rows (λ j. none (suc j)) k
