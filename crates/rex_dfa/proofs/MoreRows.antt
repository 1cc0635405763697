-- One set more.
use Rattle.std.proofs.Common.{◌≡◌, ℕ, ◌+◌, ◌⊎◌, ◌↔◌, List, [], ◌∷◌, ◌++◌, arith, sym, subst, ◌∙◌, inl, inr, length-append}
use Rattle.ck_base.specs.BitSet.{BitSet, Has, IsEmpty, Adds}
use Rattle.ck_base.proofs.Counting.{element_of_longer}
use Rattle.rex_dfa.specs.within.Rows.{AreRows}

-- one set more that has the numbers
pub rows_with : (size count : ℕ) (P : ℕ → ℕ → Type 0) (sets : List BitSet) (set : BitSet) → AreRows size count P sets → set.size ≡ size
    → ((p : ℕ) → Has set p ↔ P count p) → AreRows size (count + 1) P (sets ++ set ∷ [])
rows_with size count P sets set before set_size has = record {
  long = omega (arith, length-append sets (set ∷ []), before.long);
  sizes = λ i other is. elim (element_of_longer sets set other i is) [
    | inl old ↦ before.sizes i other old
    | inr new ↦ subst (λ (s : BitSet). s.size ≡ size) new.1 set_size
  ];
  has = λ i other is. elim (element_of_longer sets set other i is) [
    | inl old ↦ before.has i other old
    | inr new ↦ subst (λ k. (p : ℕ) → Has other p ↔ P k p) (sym (new.0 ∙ before.long)) (subst (λ s. (p : ℕ) → Has s p ↔ P count p) new.1 has)
  ];
}

-- one empty set more that has got the numbers
pub rows_more : (size count : ℕ) (P : ℕ → ℕ → Type 0) (sets : List BitSet) (fresh set : BitSet) → AreRows size count P sets
    → fresh.size ≡ size → IsEmpty fresh → Adds fresh set (P count) → AreRows size (count + 1) P (sets ++ set ∷ [])
rows_more size count P sets fresh set before fresh_size none adds = rows_with size count P sets set before (adds.size ∙ fresh_size) here
  where
    only : (p : ℕ) → Has fresh p ⊎ P count p → P count p
    only p (inl old) = absurd (none p old)
    only p (inr new) = new

    here : (p : ℕ) → Has set p ↔ P count p
    here p = (λ h. only p (adds.only p h), adds.more p)
