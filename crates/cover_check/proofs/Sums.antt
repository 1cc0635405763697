-- What the sum of labels says of the labels.
use Rattle.std.proofs.Common.{◌≡◌, ℕ, ◌+◌, ◌<◌, zero, suc, List, [], ◌∷◌, drop, Option, Some, None, inl, inr, arith, refl, sym, ap, ◌∙◌, add-one}
use Rattle.std.specs.Prelude.{slice_get}
use Rattle.std.proofs.lemmas.Bool.{cases_lt, lt-ltb}
use Rattle.beg_model.specs.declared.matched.Subgoal.{Subgoal}
use Rattle.beg_model.specs.Labels.{Costs, Sums}
use Rattle.beg_model.specs.Labels as labels
use Rattle.cover_check.specs.declared.giving.Given.{Given}
use Rattle.cover_check.specs.declared.giving.Given.TheVariants.{Cost}
use Rattle.cover_check.specs.within.Givings.{plus, sum_from, given_of, given_plus}

pub plus_is : (s l : Option ℕ) → given_plus (given_of s) l ≡ given_of (plus s l)
plus_is None None = refl
plus_is None (Some b) = refl
plus_is (Some a) None = refl
plus_is (Some a) (Some b) = elim (cases_lt a 18446744073709551616) [
  | inl lt ↦ rw (lt-ltb a 18446744073709551616 lt) refl
  | inr ge ↦ grind arith
]

drop_subgoal : (ps : List Subgoal) (i : ℕ) (p : Subgoal) → slice_get ps i ≡ Some p → drop i ps ≡ p ∷ drop (i + 1) ps
drop_subgoal [] i p e = (cc)
drop_subgoal (q ∷ ps) zero p e = let same : q ≡ p = (cc) in ap (λ z. z ∷ ps) same
drop_subgoal (q ∷ ps) (suc i) p e = let more = drop_subgoal ps i p e in rw add-one (rw add-one at more)

pub sum_more : (costs : Costs) (ps : List Subgoal) (i : ℕ) (s whole : Option ℕ) (p : Subgoal) (sum next : Given) (l : Option ℕ) → slice_get ps i ≡ Some p
    → l ≡ costs p.node p.nonterminal → next ≡ given_plus sum l → sum ≡ given_of s → sum_from costs s (drop i ps) ≡ whole
    → (t : Option ℕ) × (next ≡ given_of t) × (sum_from costs t (drop (i + 1) ps) ≡ whole)
sum_more costs ps i s whole p sum next l at label is so_far rest = (
  plus s l,
  is ∙ ap (λ z. given_plus z l) so_far ∙ plus_is s l,
  ap (λ z. sum_from costs (plus s z) (drop (i + 1) ps)) label ∙ sym (ap (λ z. sum_from costs s z) (drop_subgoal ps i p at)) ∙ rest,
)

-- a sum of labels, from a number on
pub sum_is : (costs : Costs) (ps : List Subgoal) (e a : ℕ) → Sums costs ps e → sum_from costs (Some a) ps ≡ Some (a + e)
sum_is costs _ _ a labels.no_subgoal = ap Some (omega arith)
sum_is costs _ _ a (labels.one_more n x c d rest is more) =
    ap (λ z. sum_from costs (plus (Some a) z) rest) is ∙ sum_is costs rest d (a + c) more ∙ ap Some (omega arith)

no_sum : (costs : Costs) (ps : List Subgoal) (t : ℕ) → sum_from costs None ps ≡ Some t → ⊥
no_sum costs [] t e = (cc)
no_sum costs (p ∷ ps) t e = no_sum costs ps t e

pub sums_of : (costs : Costs) (ps : List Subgoal) (a t : ℕ) → sum_from costs (Some a) ps ≡ Some t → (e : ℕ) × Sums costs ps e × (t ≡ a + e)
sums_of costs [] a t e = (0, labels.no_subgoal, (let same : a ≡ t = (cc) in omega (arith, same)))
sums_of costs (p ∷ ps) a t e = go (costs p.node p.nonterminal) refl (λ c total. sums_of costs ps (a + c) t total)
  where
    go : (l : Option ℕ) → costs p.node p.nonterminal ≡ l → ((c : ℕ) → sum_from costs (Some (a + c)) ps ≡ Some t → (e : ℕ) × Sums costs ps e × (t ≡ a + c + e))
        → (e : ℕ) × Sums costs (p ∷ ps) e × (t ≡ a + e)
    go None is rest = absurd (no_sum costs ps t (sym (ap (λ z. sum_from costs (plus (Some a) z) ps) is) ∙ e))
    go (Some c) is rest =
        let (d, sums, total) = rest c (sym (ap (λ z. sum_from costs (plus (Some a) z) ps) is) ∙ e) in
        (c + d, labels.one_more p.node p.nonterminal c d ps is sums, omega (arith, total))

pub fits_64 : (k : ℕ) → k < 4294967296 → Cost k ≡ given_of (Some k)
fits_64 k lt = rw (lt-ltb k 18446744073709551616 (omega (arith, lt))) refl
