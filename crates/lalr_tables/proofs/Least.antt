-- The order of reports, and the least clash where one more is met.
use Rattle.std.proofs.Common.{ℕ, ◌⊎◌, inl, inr, Option, Some, None, refl, ◌∙◌, arith}
use Rattle.cfg_model.specs.LalrConflicts.{NotAfter}
use Rattle.lalr_tables.specs.declared.clash.Clash.{Clash}
use Rattle.lalr_tables.specs.within.Clashes.{IsBefore, Precedes, IsLeastClash, IsLesser, IsLesserOf}
use Rattle.lalr_tables.specs.within.Rows.{ClashesOn}

not_after_self : (o : Option ℕ) → NotAfter o o
not_after_self None = tt
not_after_self (Some s) = omega arith

not_after_then : (a b c : Option ℕ) → NotAfter a b → NotAfter b c → NotAfter a c
not_after_then None b c x y = tt
not_after_then (Some k) None c x y = absurd x
not_after_then (Some k) (Some l) None x y = absurd y
not_after_then (Some k) (Some l) (Some m) x y = omega (arith, x, y)

pub before_self : (t r : ℕ) (o : Option ℕ) → IsBefore t r o t r o
before_self t r o = inr (refl, inr (refl, not_after_self o))

pub before_then : (t r : ℕ) (o : Option ℕ) (u s : ℕ) (q : Option ℕ) (v p : ℕ) (w : Option ℕ) → IsBefore t r o u s q → IsBefore u s q v p w → IsBefore t r o v p w
before_then t r o u s q v p w (inl x) (inl y) = inl (omega (arith, x, y))
before_then t r o u s q v p w (inl x) (inr (e, y)) = inl (omega (arith, x, e))
before_then t r o u s q v p w (inr (d, x)) (inl y) = inl (omega (arith, d, y))
before_then t r o u s q v p w (inr (d, inl x)) (inr (e, inl y)) = inr (d ∙ e, inl (omega (arith, x, y)))
before_then t r o u s q v p w (inr (d, inl x)) (inr (e, inr (f, y))) = inr (d ∙ e, inl (omega (arith, x, f)))
before_then t r o u s q v p w (inr (d, inr (f, x))) (inr (e, inl y)) = inr (d ∙ e, inl (omega (arith, f, y)))
before_then t r o u s q v p w (inr (d, inr (f, x))) (inr (e, inr (h, y))) = inr (d ∙ e, inr (f ∙ h, not_after_then o q w x y))

pub precedes_then : (a b c : Clash) → Precedes a b → Precedes b c → Precedes a c
precedes_then a b c = before_then a.terminal a.rule a.other b.terminal b.rule b.other c.terminal c.rule c.other

-- the same clashes have the same least one
pub least_same : (C D : Clash → Type 0) (found : Option Clash) → ((c : Clash) → C c → D c) → ((c : Clash) → D c → C c) → IsLeastClash C found → IsLeastClash D found
least_same C D None to from none = λ c clash. none c (from c clash)
least_same C D (Some b) to from (is, least) = (to b is, λ c clash. least c (from c clash))

-- one clash more: each new one stands behind it, or behind an old one
pub least_more : (C D : Clash → Type 0) (k : Clash) (found after : Option Clash) → ((c : Clash) → C c → D c) → D k
    → ((c : Clash) → D c → ((d : Clash) × C d × Precedes d c) ⊎ Precedes k c) → IsLesser found k after → IsLeastClash C found → IsLeastClash D after
least_more C D k None after to is covered after_is none = rw after_is (
  is,
  λ c clash. elim (covered c clash) [
    | inl (d, old, before) ↦ absurd (none d old)
    | inr before ↦ before
  ],
)
least_more C D k (Some b) after to is covered (c, after_is, which, before_b, before_k) (old, least) = rw after_is (
  elim which [ inl same ↦ rw same (to b old) | inr same ↦ rw same is ],
  λ e clash. elim (covered e clash) [
    | inl (d, met, before) ↦ precedes_then c d e (precedes_then c b d before_b (least d met)) before
    | inr before ↦ precedes_then c k e before_k before
  ],
)

-- the least of two groups
pub least_both : (C D : Clash → Type 0) (found other after : Option Clash) → IsLesserOf found other after → IsLeastClash C found → IsLeastClash D other
    → IsLeastClash (λ c. C c ⊎ D c) after
least_both C D found None after is first none =
    rw is (least_same C (λ c. C c ⊎ D c) found (λ c x. inl x) (λ c x. elim x [ inl y ↦ y | inr y ↦ absurd (none c y) ]) first)
least_both C D found (Some k) after is first (there, least) =
    least_more C (λ c. C c ⊎ D c) k found after (λ c x. inl x) (inr there)
    (λ c x. elim x [ inl y ↦ inl (c, y, before_self c.terminal c.rule c.other) | inr y ↦ inr (least c y) ]) is first

-- more rules are complete
pub clashes_map : (M R Q : ℕ → ℕ → Type 0) (t r : ℕ) (o : Option ℕ) → ((s : ℕ) → R t s → Q t s) → ClashesOn M R t r o → ClashesOn M Q t r o
clashes_map M R Q t r None to (x, m) = (to r x, m)
clashes_map M R Q t r (Some s) to (x, y, differ) = (to r x, to s y, differ)
