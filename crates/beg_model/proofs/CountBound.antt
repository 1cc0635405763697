-- A chosen cover has at most as many instances as there are nonterminals, for each node under it.
use Rattle.std.proofs.Common.{◌≡◌, ℕ, zero, suc, ◌+◌, ◌*◌, ◌<◌, ◌≤◌, List, [], ◌∷◌, ◌++◌, length, length-append, eqb, arith, inl, inr, refl, sym, subst}
use Rattle.std.proofs.Math.Nat.{mul-le-mul_left}
use Rattle.std.specs.List.{IsDistinct}
use Rattle.beg_model.specs.Fitting.{Subgoal}
use Rattle.beg_model.specs.Cover.{Application, Chains, Cover, Covers, Least, Chosen, Instance, Stands, IsOne, IsOrderly, by_rule, here, there}
use Rattle.beg_model.specs.Cover as cover
use Rattle.beg_model.proofs.Grounded.{AllBelow, at_most_below}
use Rattle.beg_model.proofs.ChosenCover.{tops_of, least_sum, chosen_cover_is_least}
use Rattle.beg_model.proofs.CostBound.{IsMeasured, sizes, AllPassed, is_passed, all_pass_on, met, itself}

module _ (Applies : Application) (Chain : Chains) (rules nonterminals : ℕ) (o : IsOrderly Applies Chain rules nonterminals)
    (cost : ℕ) (size : ℕ → ℕ) (m : IsMeasured Applies Chain cost nonterminals size) where
  counted : ℕ → Type 0
  counted n = (x c first : ℕ) (list : List Instance) (tops : List ℕ) → Stands Applies first (record { node = n; nonterminal = x } ∷ []) list tops c
      → length list ≤ nonterminals * size n

  count_all : {first c : ℕ} {ps : List Subgoal} {list : List Instance} {tops : List ℕ} → Stands Applies first ps list tops c
      → ((p : Subgoal) → IsOne p ps → counted p.node) → length list ≤ nonterminals * sizes size ps
  unfolding counted
  count_all (cover.no_subgoal first) each = omega arith
  count_all (cover.one_more first r n x k c d e operands rest below after tops others chosen a under more) each =
      let i : Instance = record { rule = r; node = n; operands = tops } in
      let own = each (record { node = n; nonterminal = x }) (here rest) x (k + d + 0) first (below ++ i ∷ []) ((first + length below) ∷ [])
      (cover.one_more first r n x k c d 0 operands [] below [] tops [] chosen a under (cover.no_subgoal (first + length below + 1))) in
      let others_le = count_all more (λ p among. each p (there _ rest among)) in
      let one = length-append below (i ∷ []) in
      let all = length-append below (i ∷ after) in
      omega (arith, own, others_le, one, all)

  none_after : {first e : ℕ} {list : List Instance} {tops : List ℕ} → Stands Applies first [] list tops e → list ≡ []
  none_after (cover.no_subgoal first) = refl

  -- the cost of a chosen cover is that of its rule and its operands' chosen covers
  whole_cost : (n x c r k d : ℕ) {first : ℕ} {list : List Instance} {tops : List ℕ} (ps : List Subgoal) → Chosen Applies n x c r → Applies r n x k ps
      → Stands Applies first ps list tops d → c ≡ k + d
  whole_cost n x c r k d ps chosen a under =
      let (covers, low) = least_sum Applies Chain rules nonterminals o under in
      let (l, f, qs, b, others, total) = tops_of chosen.reaches in
      let (_, costs, places) = o.one r n x x k l ps qs a b in
      let le = low f (subst (λ z. Covers Applies z f) (sym places) others) in
      let ge = chosen.least.least (k + d) (by_rule r n x k d ps a covers) in
      omega (arith, le, ge, total, costs)

  same_passed : (n y d b : ℕ) (vs : List ℕ) → Least Applies n y d → Least Applies n y b
      → AllPassed Applies Chain rules nonterminals o cost size m n y d vs → AllPassed Applies Chain rules nonterminals o cost size m n y b vs
  same_passed n y d b vs f g all = let le = f.least b g.reached in let ge = g.least d f.reached in
      let e : d ≡ b = omega (arith, le, ge) in subst (λ z. AllPassed Applies Chain rules nonterminals o cost size m n y z vs) e all

  count_along : (n : ℕ) → ((j : ℕ) → j < n → counted j) → (fuel : ℕ) (vs : List ℕ) (x z first : ℕ) (list : List Instance) (tops : List ℕ)
      → Stands Applies first (record { node = n; nonterminal = x } ∷ []) list tops z
      → ((c : ℕ) → Least Applies n x c → AllPassed Applies Chain rules nonterminals o cost size m n x c vs) → IsDistinct eqb (x ∷ vs)
      → AllBelow (x ∷ vs) nonterminals → nonterminals ≤ fuel + length vs → length list + length vs ≤ nonterminals * size n
  unfolding IsDistinct
  count_along n smaller zero vs x z first list tops stands all distinct below enough =
      absurd (let most = at_most_below (x ∷ vs) nonterminals below distinct in omega (arith, most, enough))
  count_along n smaller (suc fuel) vs x z first list tops
      (cover.one_more _ r _ _ k c d e operands _ under_list after under_tops others chosen a under more) all distinct below enough =
      let i : Instance = record { rule = r; node = n; operands = under_tops } in
      let count = length-append under_list (i ∷ after) in
      let last = none_after more in
      let rest : length after ≡ 0 = subst (λ y. length y ≡ 0) (sym last) refl in
      elim (m.kind r n x k operands a) [
        | inr (room, lower) ↦ (let low = count_all under (λ p among. smaller p.node (lower p among)) in
            let most = at_most_below (x ∷ vs) nonterminals below distinct in
            let less = mul-le-mul_left nonterminals room in
            omega (arith, count, rest, low, most, less))
        | inl (y, is, chain) ↦ (let single = subst (λ w. Stands Applies first w under_list under_tops d) is under in
            let least_y = chosen_cover_is_least Applies Chain rules nonterminals o n y d first under_list under_tops single in
            let whole = whole_cost n x c r k d operands chosen a under in
            let (_, most_y) = (o.within x y k chain) in
            let passed = all c chosen.least in
            let before : AllPassed Applies Chain rules nonterminals o cost size m n y d (x ∷ vs) = (
              itself Applies Chain rules nonterminals o cost size m n x c y d k whole chain chosen.least,
              all_pass_on Applies Chain rules nonterminals o cost size m n x c y d k vs whole chain passed,
            ) in
            elim (is_passed Applies Chain rules nonterminals o cost size m n y d y (x ∷ vs) before) [
              | inl found ↦ absurd (met Applies Chain rules nonterminals o cost size m n y d least_y found)
              | inr apart ↦ (let further = count_along n smaller fuel (x ∷ vs) y d first under_list under_tops single
                  (λ b least_b. same_passed n y d b (x ∷ vs) least_y least_b before) (apart, distinct) (most_y, below) (omega (arith, enough)) in
                  omega (arith, count, rest, further))
            ])
      ]

  left_within : (n x c first : ℕ) (list : List Instance) (tops : List ℕ) → Stands Applies first (record { node = n; nonterminal = x } ∷ []) list tops c
      → x < nonterminals
  left_within n x c first list tops (cover.one_more _ r _ _ k b d e operands _ below after under others chosen a rest more) = (m.at_most r n x k operands a).1

  by_node : (fuel n : ℕ) → n < fuel → counted n
  unfolding counted IsDistinct
  by_node zero n lt = absurd (omega (arith, lt))
  by_node (suc fuel) n lt = λ x c first list tops stands.
      (let within = left_within n x c first list tops stands in
      let le = count_along n (λ j less. by_node fuel j (omega (arith, lt, less))) nonterminals [] x c first list tops stands (λ b least. tt) (tt, tt) (within, tt) (omega arith) in
      omega (arith, le))

  pub few_instances : (n x c first : ℕ) (list : List Instance) (tops : List ℕ) → Stands Applies first (record { node = n; nonterminal = x } ∷ []) list tops c
      → length list ≤ nonterminals * size n
  unfolding counted
  few_instances n x c first list tops stands = by_node (n + 1) n (omega arith) x c first list tops stands
