-- Rows that are filled one after the other.
use Rattle.std.proofs.Common.{◌≡◌, ℕ, ◌+◌, ◌<◌, ◌≤◌, ◌⊎◌, List, [], length, slice_set, arith, refl, sym, subst, inl, inr, ◌∙◌, length-set}
use Rattle.std.proofs.lemmas.Bool.{cases_eq, cases_lt}
use Rattle.std.proofs.lemmas.List.{get_or-set_same, get_or-set_other}
use Rattle.ck_base.specs.BitSet.{BitSet, Adds}
use Rattle.rex_dfa.specs.within.Walked.{row, Fills}
use Rattle.rex_dfa.proofs.RowsSoFar.{adds_nothing}

-- the sets from one on to the one before n have got their numbers, and the others are as they were
pub record FilledTo (from n : ℕ) (P : ℕ → ℕ → Type 0) (old now : List BitSet) : Type 0 where
  pub long : length now ≡ length old
  pub done : (i : ℕ) → from ≤ i → i < n → Adds (row old i) (row now i) (P i)
  pub rest : (i : ℕ) → (i < from) ⊎ (n ≤ i) → row now i ≡ row old i

pub filled_begin : (from : ℕ) (P : ℕ → ℕ → Type 0) (old : List BitSet) → FilledTo from from P old old
filled_begin from P old = record {
  long = refl;
  done = λ i above below. absurd (omega (arith, above, below));
  rest = λ i other. refl;
}

-- one set more
pub filled_more : (from n : ℕ) (P : ℕ → ℕ → Type 0) (old now : List BitSet) (given new : BitSet) → FilledTo from n P old now → from ≤ n → n < length old
    → given ≡ row now n → Adds given new (P n) → FilledTo from (n + 1) P old (slice_set now n new)
filled_more from n P old now given new before above inside is adds = record {
  long = length-set now n new ∙ before.long;
  done = λ i from_i below. elim (cases_eq i n) [
    | inl same ↦ subst (λ k. Adds (row old k) (row (slice_set now n new) k) (P k)) (sym same)
        (subst (λ s. Adds (row old n) s (P n)) (sym (get_or-set_same now n new (record { size = 0; words = [] }) (omega (arith, inside, before.long))))
        (subst (λ s. Adds s new (P n)) (is ∙ before.rest n (inr (omega arith))) adds))
    | inr other ↦ subst (λ s. Adds (row old i) s (P i)) (sym (get_or-set_other now n i new (record { size = 0; words = [] }) other))
        (before.done i from_i (omega (arith, below, other)))
  ];
  rest = λ i outside.
      let other : i ≡ n → ⊥ = λ same. elim outside [ inl low ↦ omega (arith, low, same, above) | inr high ↦ omega (arith, high, same) ] in
      get_or-set_other now n i new (record { size = 0; words = [] }) other ∙ before.rest i (elim outside [ inl low ↦ inl low | inr high ↦ inr (omega (arith, high)) ]);
}

-- at the end all sets that are to get numbers have them
pub filled_all : (from n : ℕ) (P : ℕ → ℕ → Type 0) (old now : List BitSet) → FilledTo from n P old now → ((i p : ℕ) → i < length old → P i p → (from ≤ i) × (i < n)) → Fills old now P
filled_all from n P old now filled bound = record {
  long = filled.long;
  adds = λ i below. elim (cases_lt i from) [
    | inl low ↦ same i (inl low) (λ p h. let b = bound i p below h in omega (arith, low, b.0))
    | inr above ↦ elim (cases_lt i n) [
      | inl here ↦ filled.done i above here
      | inr high ↦ same i (inr high) (λ p h. let b = bound i p below h in omega (arith, high, b.1))
    ]
  ];
}
  where
    same : (i : ℕ) → (i < from) ⊎ (n ≤ i) → ((p : ℕ) → P i p → ⊥) → Adds (row old i) (row now i) (P i)
    same i outside none = subst (λ s. Adds (row old i) s (P i)) (sym (filled.rest i outside)) (adds_nothing (row old i) (P i) none)
