-- Rows that get their numbers part by part, and what they still lack.
use Rattle.std.proofs.Common.{◌≡◌, ℕ, ◌<◌, ◌⊎◌, ◌↔◌, List, [], length, slice_get, Some, arith, refl, subst, inl, inr, ◌∙◌}
use Rattle.std.proofs.lemmas.Option.{slice_get-get_or, slice_get_within, get_or_from_slice_get}
use Rattle.ck_base.specs.BitSet.{BitSet, Has, Adds}
use Rattle.rex_dfa.specs.within.Rows.{AreRows}
use Rattle.rex_dfa.specs.within.Walked.{row, Fills, HasRoom}
use Rattle.rex_dfa.specs.declared.walk.Rows.{Rows}

-- the rows have the numbers of P, of which those of Q may be missing
pub record RowsSoFar (size count : ℕ) (P Q : ℕ → ℕ → Type 0) (sets : List BitSet) : Type 0 where
  pub long : length sets ≡ count
  pub sizes : (i : ℕ) → i < count → (row sets i).size ≡ size
  pub only : (i p : ℕ) → i < count → Has (row sets i) p → P i p
  pub more : (i p : ℕ) → i < count → P i p → Has (row sets i) p ⊎ Q i p
  pub left : (i p : ℕ) → Q i p → P i p

module _ (size count : ℕ) (sets : List BitSet) where
  no_set : BitSet
  no_set = record { size = 0; words = [] }

  row_there : (P : ℕ → ℕ → Type 0) → AreRows size count P sets → (i : ℕ) → i < count → slice_get sets i ≡ Some (row sets i)
  row_there P rows i below = slice_get-get_or sets i (record { size = 0; words = [] }) (omega (arith, below, rows.long))

  pub row_size : (P : ℕ → ℕ → Type 0) → AreRows size count P sets → (i : ℕ) → i < count → (row sets i).size ≡ size
  row_size P rows i below = rows.sizes i (row sets i) (row_there P rows i below)

  -- at the beginning all of them are missing
  pub so_far_begin : (P : ℕ → ℕ → Type 0) → AreRows size count (λ _ _. ⊥) sets → RowsSoFar size count P P sets
  so_far_begin P blank = record {
    long = blank.long;
    sizes = row_size (λ _ _. ⊥) blank;
    only = λ i p below has. absurd ((blank.has i (row sets i) (row_there (λ _ _. ⊥) blank i below) p).0 has);
    more = λ i p below of_p. inr of_p;
    left = λ i p of_p. of_p;
  }

  -- some of the missing numbers are added, and the others stay missing
  pub so_far_more : (P Q R S : ℕ → ℕ → Type 0) (new : List BitSet) → RowsSoFar size count P Q sets → Fills sets new R → ((i p : ℕ) → Q i p ↔ (R i p ⊎ S i p))
      → RowsSoFar size count P S new
  so_far_more P Q R S new before fills split = record {
    long = fills.long ∙ before.long;
    sizes = λ i below. (added i below).size ∙ before.sizes i below;
    only = λ i p below has. elim ((added i below).only p has) [
      | inl was ↦ before.only i p below was
      | inr of_r ↦ before.left i p ((split i p).1 (inl of_r))
    ];
    more = λ i p below of_p. elim (before.more i p below of_p) [
      | inl was ↦ inl ((added i below).kept p was)
      | inr of_q ↦ elim ((split i p).0 of_q) [ inl of_r ↦ inl ((added i below).more p of_r) | inr of_s ↦ inr of_s ]
    ];
    left = λ i p of_s. before.left i p ((split i p).1 (inr of_s));
  }
    where
      added : (i : ℕ) → i < count → Adds (row sets i) (row new i) (R i)
      added i below = fills.adds i (omega (arith, below, before.long))

  -- at the end none is missing
  pub so_far_done : (P Q : ℕ → ℕ → Type 0) → RowsSoFar size count P Q sets → ((i p : ℕ) → Q i p → ⊥) → AreRows size count P sets
  so_far_done P Q done none = record {
    long = done.long;
    sizes = λ i set is. subst (λ (s : BitSet). s.size ≡ size) (row_is i set is) (done.sizes i (within i set is));
    has = λ i set is p. subst (λ s. Has s p ↔ P i p) (row_is i set is) (
      done.only i p (within i set is),
      λ of_p. elim (done.more i p (within i set is) of_p) [ inl has ↦ has | inr of_q ↦ absurd (none i p of_q) ],
    );
  }
    where
      row_is : (i : ℕ) (set : BitSet) → slice_get sets i ≡ Some set → row sets i ≡ set
      row_is i set is = get_or_from_slice_get sets i set (record { size = 0; words = [] }) is

      within : (i : ℕ) (set : BitSet) → slice_get sets i ≡ Some set → i < count
      within i set is = let below = slice_get_within sets i set is in omega (arith, below, done.long)

-- empty rows get the numbers that are added
pub rows_filled : (size count : ℕ) (P : ℕ → ℕ → Type 0) (old new : List BitSet) → AreRows size count (λ _ _. ⊥) old → Fills old new P → AreRows size count P new
rows_filled size count P old new blank fills =
    so_far_done size count new P (λ _ _. ⊥) (so_far_more size count old P P P (λ _ _. ⊥) new (so_far_begin size count old P blank) fills
    (λ i p. (λ h. inl h, λ h. elim h [ inl a ↦ a | inr b ↦ absurd b ]))) (λ i p h. h)

-- a set that has got nothing
pub adds_nothing : (set : BitSet) (P : ℕ → Type 0) → ((p : ℕ) → P p → ⊥) → Adds set set P
adds_nothing set P none = record {
  size = refl;
  only = λ p has. inl has;
  kept = λ p has. has;
  more = λ p h. absurd (none p h);
}

pub blank_room : (size : ℕ) (rows : Rows) → AreRows size 256 (λ _ _. ⊥) rows.takers.items → AreRows size size (λ _ _. ⊥) rows.follows.items → HasRoom size rows
blank_room size rows takers follows = record {
  bytes = takers.long;
  taker_sizes = row_size size 256 rows.takers.items (λ _ _. ⊥) takers;
  positions = follows.long;
  follow_sizes = row_size size size rows.follows.items (λ _ _. ⊥) follows;
}
