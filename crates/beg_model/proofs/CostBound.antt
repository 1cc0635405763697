-- Least costs are bounded by the size of the tree: no chosen chain meets a nonterminal twice.
use Rattle.std.proofs.Common.{◌≡◌, ℕ, zero, suc, ◌+◌, ◌*◌, ◌<◌, ◌≤◌, ◌⊎◌, List, [], ◌∷◌, length, false, eqb, arith, inl, inr, sym, subst}
use Rattle.std.proofs.Math.Nat.{mul-le-mul_left}
use Rattle.std.specs.List.{IsDistinct, AllByRecursion}
use Rattle.std.proofs.lemmas.Bool.{eqb-true}
use Rattle.beg_model.specs.Fitting.{Subgoal}
use Rattle.beg_model.specs.Cover.{Application, Chains, FreeWay, step, more, Cover, Covers, Least, IsOne, IsOrderly, by_rule, here, there}
use Rattle.beg_model.specs.Cover as cover
use Rattle.beg_model.proofs.Grounded.{AllBelow, at_most_below, way_and_step, is_equal}
use Rattle.beg_model.proofs.ChosenCover.{tops_of, top_of, split, none_costs, least_of_cover}

abbrev pub sizes : (ℕ → ℕ) → List Subgoal → ℕ
sizes size [] = 0
sizes size (p ∷ ps) = size p.node + sizes size ps

-- what the bound uses: the greatest cost of a rule, and the nodes under a node
pub record IsMeasured (Applies : Application) (Chain : Chains) (cost nonterminals : ℕ) (size : ℕ → ℕ) : Type 0 where
  pub at_most : (r n x k : ℕ) (ps : List Subgoal) → Applies r n x k ps → (k ≤ cost) × (x < nonterminals)
  pub kind : (r n x k : ℕ) (ps : List Subgoal) → Applies r n x k ps
      → ((y : ℕ) × (ps ≡ record { node = n; nonterminal = y } ∷ []) × Chain x y k)
      ⊎ ((sizes size ps + 1 ≤ size n) × ((p : Subgoal) → IsOne p ps → p.node < n))

module _ (Applies : Application) (Chain : Chains) (rules nonterminals : ℕ) (o : IsOrderly Applies Chain rules nonterminals)
    (cost : ℕ) (size : ℕ → ℕ) (m : IsMeasured Applies Chain cost nonterminals size) where
  bounded : (n : ℕ) → Type 0
  bounded n = (x c : ℕ) → Least Applies n x c → c ≤ cost * nonterminals * size n

  bounded_covers : {ps : List Subgoal} {e : ℕ} → Covers Applies ps e → ((p : Subgoal) → IsOne p ps → bounded p.node)
      → (d : ℕ) × Covers Applies ps d × (d ≤ cost * nonterminals * sizes size ps)
  unfolding bounded
  bounded_covers cover.no_subgoal each = (0, cover.no_subgoal, omega arith)
  bounded_covers (cover.one_more n x c e rest one others) each =
      let (b, le, least) = least_of_cover Applies Chain rules nonterminals o n x c one in
      let low = each (record { node = n; nonterminal = x }) (here rest) x b least in
      let (d, all, less) = bounded_covers others (λ p among. each p (there _ rest among)) in
      (b + d, cover.one_more n x b d rest least.reached all, omega (arith, low, less))

  -- the nonterminal stands before x on a chain: a free way leads to x, or x costs less
  abbrev pub Passed : ℕ → ℕ → ℕ → ℕ → Type 0
  Passed n x c v = (b : ℕ) × Least Applies n v b × ((FreeWay Chain v x × (b ≡ c)) ⊎ (c < b))

  abbrev pub AllPassed : ℕ → ℕ → ℕ → List ℕ → Type 0
  AllPassed n x c [] = Unit {0}
  AllPassed n x c (v ∷ vs) = Passed n x c v × AllPassed n x c vs

  pub is_passed : (n x c y : ℕ) (vs : List ℕ) → AllPassed n x c vs → Passed n x c y ⊎ AllByRecursion (λ v. eqb y v ≡ false) vs
  is_passed n x c y [] all = inr tt
  is_passed n x c y (v ∷ vs) (first, all) = elim (is_equal (eqb y v)) [
    | inl same ↦ inl (subst (λ z. Passed n x c z) (sym (eqb-true y v same)) first)
    | inr other ↦ elim (is_passed n x c y vs all) [
      | inl found ↦ inl found
      | inr none ↦ inr (other, none)
    ]
  ]

  one_least : {n x b c : ℕ} → Least Applies n x b → Least Applies n x c → b ≡ c
  one_least {b = b} {c = c} f g = let le = f.least c g.reached in let ge = g.least b f.reached in omega (arith, le, ge)

  zero_or_some : (k : ℕ) → (k ≡ 0) ⊎ (0 < k)
  zero_or_some k = grind arith

  pass_on : (n x c y b k v : ℕ) → c ≡ k + b → Chain x y k → Passed n x c v → Passed n y b v
  pass_on n x c y b k v total chain (a, least, inl (way, same)) = (
    a,
    least,
    elim (zero_or_some k) [
      | inl free ↦ inl (way_and_step y way (subst (λ z. Chain x y z) free chain), omega (arith, total, same, free))
      | inr some ↦ inr (omega (arith, total, same, some))
    ],
  )
  pass_on n x c y b k v total chain (a, least, inr less) = (a, least, inr (omega (arith, total, less)))

  pub all_pass_on : (n x c y b k : ℕ) (vs : List ℕ) → c ≡ k + b → Chain x y k → AllPassed n x c vs → AllPassed n y b vs
  all_pass_on n x c y b k [] total chain all = tt
  all_pass_on n x c y b k (v ∷ vs) total chain (first, all) =
      (pass_on n x c y b k v total chain first, all_pass_on n x c y b k vs total chain all)

  -- no nonterminal stands before itself
  pub met : (n y g : ℕ) → Least Applies n y g → Passed n y g y → ⊥
  met n y g least (a, other, inl (way, same)) = o.no_free_cycle y way
  met n y g least (a, other, inr less) = let e = one_least least other in omega (arith, less, e)

  pub itself : (n x c y b k : ℕ) → c ≡ k + b → Chain x y k → Least Applies n x c → Passed n y b x
  itself n x c y b k total chain least = (
    c,
    least,
    elim (zero_or_some k) [
      | inl free ↦ inl (step x y (subst (λ z. Chain x y z) free chain), omega (arith, total, free))
      | inr some ↦ inr (omega (arith, total, some))
    ],
  )

  along : (n : ℕ) → ((j : ℕ) → j < n → bounded j) → (fuel : ℕ) (vs : List ℕ) (x c : ℕ) → Least Applies n x c
      → AllPassed n x c vs → IsDistinct eqb (x ∷ vs) → AllBelow (x ∷ vs) nonterminals → nonterminals ≤ fuel + length vs
      → c + cost * length vs ≤ cost * nonterminals * size n
  unfolding IsDistinct
  along n smaller zero vs x c least all distinct below enough =
      absurd (let most = at_most_below (x ∷ vs) nonterminals below distinct in omega (arith, most, enough))
  along n smaller (suc fuel) vs x c least all distinct below enough =
      let (r, top) = top_of least.reached in
      let (k, e, ps, a, covers, total) = tops_of top in
      let (le, lt) = m.at_most r n x k ps a in
      elim (m.kind r n x k ps a) [
        | inr (room, under) ↦ (let (d, cheap, low) = bounded_covers covers (λ p among. smaller p.node (under p among)) in
            let lowest = least.least (k + d) (by_rule r n x k d ps a cheap) in
            let most = at_most_below (x ∷ vs) nonterminals below distinct in
            let less = mul-le-mul_left (cost * nonterminals) room in
            let few = mul-le-mul_left cost most in
            omega (arith, lowest, le, low, less, few))
        | inl (y, is, chain) ↦ (let (b, f, one, none, sum) = split (subst (λ z. Covers Applies z e) is covers) in
            let zero_rest = none_costs none in
            let (g, low, lower) = least_of_cover Applies Chain rules nonterminals o n y b one in
            let again = subst (λ z. Applies r n x k z) is a in
            let other = least.least (k + (g + 0)) (by_rule r n x k (g + 0) _ again (cover.one_more n y g 0 [] lower.reached cover.no_subgoal)) in
            let whole : c ≡ k + g = omega (arith, total, sum, zero_rest, low, other) in
            let before : AllPassed n y g (x ∷ vs) = (itself n x c y g k whole chain least, all_pass_on n x c y g k vs whole chain all) in
            elim (is_passed n y g y (x ∷ vs) before) [
              | inl found ↦ absurd (met n y g lower found)
              | inr apart ↦ (let rest = along n smaller fuel (x ∷ vs) y g lower before (apart, distinct) ((o.within x y k chain).1, below) (omega (arith, enough)) in
                  omega (arith, rest, whole, le))
            ])
      ]

  by_node : (fuel n : ℕ) → n < fuel → bounded n
  unfolding bounded IsDistinct
  by_node zero n lt = absurd (omega (arith, lt))
  by_node (suc fuel) n lt = λ x c least.
      (let (r, top) = top_of least.reached in
      let (k, e, ps, a, covers, total) = tops_of top in
      let within = (m.at_most r n x k ps a).1 in
      let le = along n (λ j less. by_node fuel j (omega (arith, lt, less))) nonterminals [] x c least tt (tt, tt) (within, tt) (omega arith) in
      omega (arith, le))

  pub least_bounded : (n x c : ℕ) → Least Applies n x c → c ≤ cost * nonterminals * size n
  unfolding bounded
  least_bounded n x c least = by_node (n + 1) n (omega arith) x c least
