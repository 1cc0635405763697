-- A set that grows in parts, and what it still lacks.
use Rattle.std.proofs.Common.{◌≡◌, ℕ, ◌⊎◌, ◌↔◌, inl, inr, ◌∙◌}
use Rattle.ck_base.specs.BitSet.{BitSet, Has, Adds}

-- the new set is the old one with the numbers of P, of which those of Q may be missing
pub record Adding (old new : BitSet) (P Q : ℕ → Type 0) : Type 0 where
  pub size : new.size ≡ old.size
  pub only : (i : ℕ) → Has new i → Has old i ⊎ P i
  pub kept : (i : ℕ) → Has old i → Has new i
  pub more : (i : ℕ) → P i → Has new i ⊎ Q i
  pub left : (i : ℕ) → Q i → P i

module _ {old mid : BitSet} {P Q : ℕ → Type 0} (before : Adding old mid P Q) where
  -- some of the missing numbers are added, and the others stay missing
  pub adding_more : {new : BitSet} (R S : ℕ → Type 0) → Adds mid new R → ((i : ℕ) → Q i ↔ (R i ⊎ S i)) → Adding old new P S
  adding_more {new} R S added split = record {
    size = added.size ∙ before.size;
    only = λ i has. elim (added.only i has) [
      | inl was ↦ before.only i was
      | inr of_r ↦ inr (before.left i ((split i).1 (inl of_r)))
    ];
    kept = λ i has. added.kept i (before.kept i has);
    more = λ i of_p. elim (before.more i of_p) [
      | inl was ↦ inl (added.kept i was)
      | inr of_q ↦ elim ((split i).0 of_q) [ inl of_r ↦ inl (added.more i of_r) | inr of_s ↦ inr of_s ]
    ];
    left = λ i of_s. before.left i ((split i).1 (inr of_s));
  }

  -- nothing is added, and what is missing is described in another way
  pub adding_same : (S : ℕ → Type 0) → ((i : ℕ) → Q i ↔ S i) → Adding old mid P S
  adding_same S same = record {
    size = before.size;
    only = before.only;
    kept = before.kept;
    more = λ i of_p. elim (before.more i of_p) [ inl was ↦ inl was | inr of_q ↦ inr ((same i).0 of_q) ];
    left = λ i of_s. before.left i ((same i).1 of_s);
  }

-- at the end none is missing
pub adding_all : {old new : BitSet} {P Q : ℕ → Type 0} → Adding old new P Q → ((i : ℕ) → Q i → ⊥) → Adds old new P
adding_all adding none = record {
  size = adding.size;
  only = adding.only;
  kept = adding.kept;
  more = λ i of_p. elim (adding.more i of_p) [ inl has ↦ has | inr of_q ↦ absurd (none i of_q) ];
}

-- two sets of numbers, one after the other
pub adds_both : {old mid new : BitSet} {P Q : ℕ → Type 0} (R : ℕ → Type 0) → Adds old mid P → Adds mid new Q
    → ((i : ℕ) → R i ↔ (P i ⊎ Q i)) → Adds old new R
adds_both R first second both = record {
  size = second.size ∙ first.size;
  only = λ i has. elim (second.only i has) [
    | inl was ↦ elim (first.only i was) [ inl old ↦ inl old | inr of_p ↦ inr ((both i).1 (inl of_p)) ]
    | inr of_q ↦ inr ((both i).1 (inr of_q))
  ];
  kept = λ i has. second.kept i (first.kept i has);
  more = λ i of_r. elim ((both i).0 of_r) [
    | inl of_p ↦ second.kept i (first.more i of_p)
    | inr of_q ↦ second.more i of_q
  ];
}
