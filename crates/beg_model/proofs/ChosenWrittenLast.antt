-- Rules p: a = b COST 1, q: b = c COST 1, k: c = A() COST 1, z: a = A() COST 5, w: a = A() COST 3, in this order: p and w reach cost 3, and p is chosen.
use Rattle.std.proofs.Common.{◌≡◌, ℕ, ◌≤◌, ◌⊎◌, List, [], ◌∷◌, inl, inr, arith, refl, subst}
use Rattle.beg_model.specs.Fitting.{Subgoal}
use Rattle.beg_model.specs.Cover.{Cover, Covers, Least, Reaches, Chosen, by_rule, on_top}
use Rattle.beg_model.specs.Cover as cover
use Rattle.beg_model.proofs.ChosenCover.{Tops, tops_of, top_of, split, none_costs}

pub data Row : ℕ → ℕ → ℕ → ℕ → List Subgoal → Type 0 where
  p : Row 0 0 0 1 (record { node = 0; nonterminal = 1 } ∷ [])
  q : Row 1 0 1 1 (record { node = 0; nonterminal = 2 } ∷ [])
  k : Row 2 0 2 1 []
  z : Row 3 0 0 5 []
  w : Row 4 0 0 3 []

one_place : {n x d : ℕ} → Covers Row (record { node = n; nonterminal = x } ∷ []) d → Cover Row n x d
one_place {n = n} {x = x} {d = d} covers = let (c, e, one, others, total) = split covers in
    let none = none_costs others in let same : c ≡ d = omega (arith, total, none) in subst (λ y. Cover Row n x y) same one

abbrev at : ℕ → List Subgoal
at x = record { node = 0; nonterminal = x } ∷ []

pub rule_of_c : {r l : ℕ} {ps : List Subgoal} → Row r 0 2 l ps → (l ≡ 1) × (ps ≡ [])
rule_of_c k = (refl, refl)

rule_of_b : {r l : ℕ} {ps : List Subgoal} → Row r 0 1 l ps → (l ≡ 1) × (ps ≡ at 2)
rule_of_b q = (refl, refl)

rule_of_a : {r l : ℕ} {ps : List Subgoal} → Row r 0 0 l ps → ((r ≡ 0) × (l ≡ 1) × (ps ≡ at 1)) ⊎ ((3 ≤ r) × (3 ≤ l) × (ps ≡ []))
rule_of_a p = inl (refl, refl, refl)
rule_of_a z = inr (omega arith, omega arith, refl)
rule_of_a w = inr (omega arith, omega arith, refl)

cost_of_c : (d : ℕ) → Cover Row 0 2 d → d ≡ 1
cost_of_c d c = let (r, top) = top_of c in let (l, e, ps, a, covers, total) = tops_of top in
    let (cost, places) = rule_of_c a in
    let none = none_costs (subst (λ y. Covers Row y e) places covers) in omega (arith, total, cost, none)

cost_of_b : (d : ℕ) → Cover Row 0 1 d → d ≡ 2
cost_of_b d c = let (r, top) = top_of c in let (l, e, ps, a, covers, total) = tops_of top in
    let (cost, places) = rule_of_b a in
    let below = cost_of_c e (one_place (subst (λ y. Covers Row y e) places covers)) in omega (arith, total, cost, below)

tops_cost : (r d : ℕ) → Tops Row r 0 0 d → (0 ≤ r) × (3 ≤ d)
tops_cost r d (l, e, ps, a, covers, total) = elim (rule_of_a a) [
  | inl (rule, cost, places) ↦ (let below = cost_of_b e (one_place (subst (λ y. Covers Row y e) places covers)) in
      (omega (arith, rule), omega (arith, total, cost, below)))
  | inr (rule, cost, places) ↦ (omega (arith, rule), omega (arith, total, cost))
]

cover_of_a : Cover Row 0 0 3
cover_of_a = by_rule 0 0 0 1 2 _ p (cover.one_more 0 1 2 0 [] (by_rule 1 0 1 1 1 _ q
    (cover.one_more 0 2 1 0 [] (by_rule 2 0 2 1 0 _ k cover.no_subgoal) cover.no_subgoal)) cover.no_subgoal)

reaches : Reaches Row 0 0 0 3
reaches = on_top 1 2 _ p (cover.one_more 0 1 2 0 [] (by_rule 1 0 1 1 1 _ q
    (cover.one_more 0 2 1 0 [] (by_rule 2 0 2 1 0 _ k cover.no_subgoal) cover.no_subgoal)) cover.no_subgoal)

pub chosen : Chosen Row 0 0 3 0
chosen = record {
  least = record { reached = cover_of_a; least = λ d c. (let (r, top) = top_of c in (tops_cost r d (tops_of top)).1) };
  reaches = reaches;
  first = λ r top. (tops_cost r 3 (tops_of top)).0;
}
