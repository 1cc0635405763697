-- From the offers of a node to its labels: each best is at least what its rule gives, and at the end no rule gives better.
use Rattle.std.proofs.Common.{◌≡◌, ℕ, ◌+◌, ◌<◌, ◌≤◌, ◌⊎◌, zero, suc, List, [], ◌∷◌, length, set, true, false, Option, Some, None, inl, inr, arith, refl, sym, subst, ap, ◌∙◌}
use Rattle.std.specs.Prelude.{nat_lt, nat_eq, if◌then◌else◌}
use Rattle.std.proofs.lemmas.Bool.{lt-ltb, ltb-true, cases_eq, ne_eqb, eq-eqb}
use Rattle.std.proofs.lemmas.List.{length-set}
use Rattle.beg_model.specs.declared.matched.Subgoal.{Subgoal}
use Rattle.beg_model.specs.Cover.{Application, IsOne, here, there}
use Rattle.beg_model.specs.Labels.{Costs, Sums}
use Rattle.beg_model.specs.Labels as labels
use Rattle.beg_model.proofs.Closing.{Lower, sums_lower}
use Rattle.beg_label.specs.declared.offers.Offer.{Offer}
use Rattle.beg_label.specs.declared.offers.Best.{Best}
use Rattle.beg_label.specs.within.Offers.{capped, best_at, operand_cost, offer_cost, better, improves, improved, IsIn, Improves, NoneBetter}
use Rattle.beg_label.specs.within.Collected.{own_operand, cost_or_nothing, total_from, cost_by, Collected}
use Rattle.beg_label.proofs.Rounds.{better_parts, tells}

-- the label that a best is
abbrev pub label_by : Best → Option ℕ
label_by b = if nat_lt b.cost 1099511627776 then Some b.cost else None

-- the labels with a row at node n
abbrev pub with_row : Costs → ℕ → List Best → Costs
with_row costs n row m y = if nat_eq m n then label_by (best_at row y) else costs m y

pub label_some : (b : Best) → b.cost < 1099511627776 → label_by b ≡ Some b.cost
label_some b lt = rw (lt-ltb b.cost 1099511627776 lt) refl

pub label_parts : (b : Best) (c : ℕ) → label_by b ≡ Some c → (b.cost ≡ c) × (c < 1099511627776)
label_parts b c is = elim (tells (nat_lt b.cost 1099511627776)) [
  | inl low ↦ (let e : Some b.cost ≡ Some c = (rw low at is) in let same : b.cost ≡ c = (cc) in let lt = ltb-true b.cost 1099511627776 low in (same, omega (arith, same, lt)))
  | inr high ↦ absurd (let e : None ≡ Some c = (rw high at is) in (cc))
]

pub at_row : (costs : Costs) (n : ℕ) (row : List Best) (y : ℕ) → with_row costs n row n y ≡ label_by (best_at row y)
at_row costs n row y = rw (eq-eqb n n refl) refl

pub off_row : (costs : Costs) (n : ℕ) (row : List Best) (m y : ℕ) → (m ≡ n → ⊥) → with_row costs n row m y ≡ costs m y
off_row costs n row m y differ = rw (ne_eqb m n differ) refl

-- sums of labels, capped
pub total_is : (costs : Costs) (ps : List Subgoal) (s e : ℕ) → Sums costs ps e → s + e < 1099511627776 → total_from costs s ps ≡ s + e
total_is costs _ s _ labels.no_subgoal lt = omega arith
total_is costs _ s _ (labels.one_more n x c d rest is more) lt =
    let here_is : capped (s + cost_or_nothing (costs n x)) ≡ s + c = rw is (omega (arith, lt)) in
    ap (λ z. total_from costs z rest) here_is ∙ total_is costs rest (s + c) d more (omega (arith, lt)) ∙ omega arith

pub total_grows : (costs : Costs) (ps : List Subgoal) (s : ℕ) → s ≤ 1099511627776 → s ≤ total_from costs s ps
total_grows costs [] s le = omega arith
total_grows costs (p ∷ ps) s le =
    let more = total_grows costs ps (capped (s + cost_or_nothing (costs p.node p.nonterminal))) (omega arith) in omega (arith, more, le)

pub sums_of_total : (costs : Costs) (ps : List Subgoal) (s : ℕ) → s ≤ 1099511627776 → total_from costs s ps < 1099511627776
    → (e : ℕ) × Sums costs ps e × (total_from costs s ps ≡ s + e)
sums_of_total costs [] s le lt = (0, labels.no_subgoal, omega arith)
sums_of_total costs (p ∷ ps) s le lt =
    go (sums_of_total costs ps (capped (s + cost_or_nothing (costs p.node p.nonterminal))) (omega arith) lt) (costs p.node p.nonterminal) refl
  where
    go : ((e : ℕ) × Sums costs ps e × (total_from costs (capped (s + cost_or_nothing (costs p.node p.nonterminal))) ps ≡ capped (s + cost_or_nothing (costs p.node p.nonterminal)) + e))
        → (o : Option ℕ) → costs p.node p.nonterminal ≡ o → (e : ℕ) × Sums costs (p ∷ ps) e × (total_from costs s (p ∷ ps) ≡ s + e)
    go later None is = absurd (
        let grows = total_grows costs ps (capped (s + cost_or_nothing (costs p.node p.nonterminal))) (omega arith) in
        let all : cost_or_nothing (costs p.node p.nonterminal) ≡ 1099511627776 = ap cost_or_nothing is in omega (arith, grows, all, lt))
    go (e, sums, total) (Some c) is =
        let all : cost_or_nothing (costs p.node p.nonterminal) ≡ c = ap cost_or_nothing is in
        let grows = total_grows costs ps (capped (s + cost_or_nothing (costs p.node p.nonterminal))) (omega arith) in
        (c + e, labels.one_more p.node p.nonterminal c e ps is sums, omega (arith, total, all, grows, lt))

single_sum : (costs : Costs) (n y e : ℕ) → Sums costs (record { node = n; nonterminal = y } ∷ []) e → costs n y ≡ Some e
single_sum costs n y e (labels.one_more _ _ c d _ is labels.no_subgoal) = is ∙ ap Some (omega arith)

pub best_set : (row : List Best) (x y : ℕ) (b : Best) → x < length row → ((y ≡ x) × (best_at (set row x b) y ≡ b)) ⊎ ((y ≡ x → ⊥) × (best_at (set row x b) y ≡ best_at row y))
best_set [] x y b lt = absurd (omega (arith, lt))
best_set (a ∷ row) zero zero b lt = inl (refl, refl)
best_set (a ∷ row) zero (suc y) b lt = inr ((λ e. omega (arith, e)), refl)
best_set (a ∷ row) (suc x) zero b lt = inr ((λ e. omega (arith, e)), refl)
best_set (a ∷ row) (suc x) (suc y) b lt = elim (best_set row x y b (omega (arith, lt))) [
  | inl (same, is) ↦ inl (omega (arith, same), is)
  | inr (differ, is) ↦ inr ((λ e. differ (omega (arith, e))), is)
]

not_better : (c r : ℕ) (old : Best) → better c r old ≡ false → c < 1099511627776 → (old.cost < c) ⊎ ((old.cost ≡ c) × (old.rule ≤ r))
not_better c r old h lt = grind arith

module _ (Applies : Application) (costs : Costs) (n : ℕ) (list : List ℕ) (offers : List Offer) (width : ℕ)
    (lies : (r x k : ℕ) (ps : List Subgoal) → Applies r n x k ps
    → ((y : ℕ) × (ps ≡ record { node = n; nonterminal = y } ∷ [])) ⊎ ((q : Subgoal) → IsOne q ps → q.node < n))
    (within : (r x k : ℕ) (ps : List Subgoal) → Applies r n x k ps → x < width)
    (col : Collected Applies costs n list offers) where
  own_self : (y : ℕ) → own_operand (record { node = n; nonterminal = y } ∷ []) n ≡ Some y
  own_self y = rw (eq-eqb n n refl) refl

  own_lower : (ps : List Subgoal) → ((q : Subgoal) → IsOne q ps → q.node < n) → own_operand ps n ≡ None
  own_lower [] low = refl
  own_lower (p ∷ []) low = let lt = low p (here []) in rw (ne_eqb p.node n (λ e. omega (arith, e, lt))) refl
  own_lower (p ∷ q ∷ ps) low = refl

  lower_sums : (row : List Best) (ps : List Subgoal) (e : ℕ) → ((q : Subgoal) → IsOne q ps → q.node < n) → Sums costs ps e → Sums (with_row costs n row) ps e
  lower_sums row _ _ low labels.no_subgoal = labels.no_subgoal
  lower_sums row _ _ low (labels.one_more m x c d rest is more) =
      labels.one_more m x c d rest (off_row costs n row m x (λ e. (let lt = low (record { node = m; nonterminal = x }) (here rest) in omega (arith, e, lt))) ∙ is)
      (lower_sums row rest d (λ q one. low q (there _ rest one)) more)

  lower_back : (row : List Best) (ps : List Subgoal) (e : ℕ) → ((q : Subgoal) → IsOne q ps → q.node < n) → Sums (with_row costs n row) ps e → Sums costs ps e
  lower_back row _ _ low labels.no_subgoal = labels.no_subgoal
  lower_back row _ _ low (labels.one_more m x c d rest is more) =
      labels.one_more m x c d rest (sym (off_row costs n row m x (λ e. (let lt = low (record { node = m; nonterminal = x }) (here rest) in omega (arith, e, lt)))) ∙ is)
      (lower_back row rest d (λ q one. low q (there _ rest one)) more)

  -- each best is at least what its rule gives
  pub record RowOver (row : List Best) : Type 0 where
    pub size : length row ≡ width
    pub gives : (x : ℕ) → (best_at row x).cost < 1099511627776 → (k : ℕ) × (e : ℕ) × (ps : List Subgoal)
        × Applies (best_at row x).rule n x k ps × Sums (with_row costs n row) ps e × (k + e ≤ (best_at row x).cost)

  -- what an offer comes to below the cap is what its rule gives
  offer_gives : (row : List Best) (o : Offer) → IsIn o offers → offer_cost o row < 1099511627776
      → (k : ℕ) × (e : ℕ) × (ps : List Subgoal) × Applies o.rule n o.left k ps × Sums (with_row costs n row) ps e × (k + e ≡ offer_cost o row)
  offer_gives row o among lt =
      let (r, x, k, ps, a, is) = col.each o among in
      let b : Applies o.rule n o.left k ps = subst (λ z. Applies z n o.left k ps) (sym is.rule_is) (subst (λ z. Applies r n z k ps) (sym is.left_is) a) in
      elim (lies r x k ps a) [
        | inl (y, places) ↦ (
            let own : own_operand ps n ≡ Some y = subst (λ z. own_operand z n ≡ Some y) (sym places) (own_self y) in
            let operand : o.operand ≡ Some y = is.operand_is ∙ own in
            let cost : o.cost ≡ k = is.cost_is ∙ ap (λ z. cost_by z k (total_from costs 0 ps)) own in
            let own_cost : operand_cost row o.operand ≡ (best_at row y).cost = ap (operand_cost row) operand in
            let low : (best_at row y).cost < 1099511627776 = omega (arith, lt, own_cost) in
            let label : with_row costs n row n y ≡ Some (best_at row y).cost = at_row costs n row y ∙ label_some (best_at row y) low in (
              k,
              (best_at row y).cost + 0,
              ps,
              b,
              subst (λ z. Sums (with_row costs n row) z ((best_at row y).cost + 0)) (sym places)
                  (labels.one_more n y (best_at row y).cost 0 [] label labels.no_subgoal),
              omega (arith, lt, cost, own_cost),
            ))
        | inr lower ↦ (
            let own : own_operand ps n ≡ None = own_lower ps lower in
            let operand : o.operand ≡ None = is.operand_is ∙ own in
            let cost : o.cost ≡ capped (k + total_from costs 0 ps) = is.cost_is ∙ ap (λ z. cost_by z k (total_from costs 0 ps)) own in
            let own_cost : operand_cost row o.operand ≡ 0 = ap (operand_cost row) operand in
            let (e, sums, total) = sums_of_total costs ps 0 (omega arith) (omega (arith, lt, cost, own_cost)) in
            (k, e, ps, b, lower_sums row ps e lower sums, omega (arith, lt, cost, own_cost, total)))
      ]

  -- what a rule gives below the cap is offered
  gives_offer : (row : List Best) (r x k e : ℕ) (ps : List Subgoal) → IsIn r list → Applies r n x k ps → Sums (with_row costs n row) ps e → k + e < 1099511627776
      → (o : Offer) × IsIn o offers × (o.rule ≡ r) × (o.left ≡ x) × (offer_cost o row ≡ k + e)
  gives_offer row r x k e ps listed a sums lt =
      let (o, among, is) = col.all r x k ps listed a in (
        o,
        among,
        is.rule_is,
        is.left_is,
        elim (lies r x k ps a) [
          | inl (y, places) ↦ (
              let own : own_operand ps n ≡ Some y = subst (λ z. own_operand z n ≡ Some y) (sym places) (own_self y) in
              let cost : o.cost ≡ k = is.cost_is ∙ ap (λ z. cost_by z k (total_from costs 0 ps)) own in
              let own_cost : operand_cost row o.operand ≡ (best_at row y).cost = ap (operand_cost row) (is.operand_is ∙ own) in
              let label = single_sum (with_row costs n row) n y e (subst (λ z. Sums (with_row costs n row) z e) places sums) in
              let (same, low) = label_parts (best_at row y) e (sym (at_row costs n row y) ∙ label) in
              omega (arith, lt, cost, own_cost, same))
          | inr lower ↦ (
              let own : own_operand ps n ≡ None = own_lower ps lower in
              let cost : o.cost ≡ capped (k + total_from costs 0 ps) = is.cost_is ∙ ap (λ z. cost_by z k (total_from costs 0 ps)) own in
              let own_cost : operand_cost row o.operand ≡ 0 = ap (operand_cost row) (is.operand_is ∙ own) in
              let total = total_is costs ps 0 e (lower_back row ps e lower sums) (omega (arith, lt)) in
              omega (arith, lt, cost, own_cost, total))
        ],
      )

  lower_row : (row new : List Best) → ((y : ℕ) → (best_at new y).cost ≤ (best_at row y).cost) → Lower (with_row costs n row) (with_row costs n new)
  lower_row row new le m y c is = elim (cases_eq m n) [
    | inr differ ↦ (c, off_row costs n new m y differ ∙ sym (off_row costs n row m y differ) ∙ is, omega arith)
    | inl same ↦ (
        let here_is : with_row costs n row n y ≡ Some c = subst (λ z. with_row costs n row z y ≡ Some c) same is in
        let (cost, lt) = label_parts (best_at row y) c (sym (at_row costs n row y) ∙ here_is) in
        let less = le y in (
          (best_at new y).cost,
          subst (λ z. with_row costs n new z y ≡ Some (best_at new y).cost) (sym same)
              (at_row costs n new y ∙ label_some (best_at new y) (omega (arith, cost, lt, less))),
          omega (arith, cost, less),
        ))
  ]

  one_more_over : (row : List Best) (o : Offer) → RowOver row → IsIn o offers → improves o row ≡ true → RowOver (improved o row)
  one_more_over row o over among yes_better =
      let (low, parts) = better_parts (offer_cost o row) o.rule (best_at row o.left) yes_better in
      let b : Best = record { cost = offer_cost o row; rule = o.rule } in
      let (k, e, ps, a, sums, total) = offer_gives row o among low in
      let left = within o.rule o.left k ps a in
      let size = over.size in
      let lt : o.left < length row = omega (arith, left, size) in
      let new_is : improved o row ≡ set row o.left b = rw yes_better refl in
      let at_most : (offer_cost o row) ≤ (best_at row o.left).cost = elim parts [ inl less ↦ omega (arith, less) | inr (same, first) ↦ omega (arith, same) ] in
      let lower : Lower (with_row costs n row) (with_row costs n (set row o.left b)) = lower_row row (set row o.left b) (λ y. elim (best_set row o.left y b lt) [
        | inl (same, is) ↦ (let cost = ap (λ (z : Best). z.cost) is in let old = ap (λ z. (best_at row z).cost) same in omega (arith, cost, old, at_most))
        | inr (differ, is) ↦ (let cost = ap (λ (z : Best). z.cost) is in omega (arith, cost))
      ]) in
      subst RowOver (sym new_is) (record {
        size = length-set row o.left b ∙ size;
        gives = λ x below. elim (best_set row o.left x b lt) [
          | inl (same, is) ↦ (
              let (f, more, le) = sums_lower (with_row costs n row) (with_row costs n (set row o.left b)) lower sums in
              let cost = ap (λ (z : Best). z.cost) is in
              (k, f, ps, subst (λ (z : Best). Applies z.rule n x k ps) (sym is) (subst (λ z. Applies o.rule n z k ps) (sym same) a), more, omega (arith, total, le, cost)))
          | inr (differ, is) ↦ (
              let cost = ap (λ (z : Best). z.cost) is in
              let (l, g, qs, q, others, less) = over.gives x (omega (arith, below, cost)) in
              let (f, more, le) = sums_lower (with_row costs n row) (with_row costs n (set row o.left b)) lower others in
              (l, f, qs, subst (λ (z : Best). Applies z.rule n x l qs) (sym is) q, more, omega (arith, less, le, cost)))
        ];
      })

  pub all_over : {old new : List Best} → RowOver old → Improves offers old new → RowOver new
  all_over over (Improves.none _) = over
  all_over over (Improves.more old new o steps among yes_better) = one_more_over new o (all_over over steps) among yes_better

  pub clear_over : (row : List Best) → length row ≡ width → ((x : ℕ) → (best_at row x).cost ≡ 1099511627776) → RowOver row
  clear_over row size clear = record { size = size; gives = λ x lt. absurd (let e = clear x in omega (arith, e, lt)) }

  -- where no offer is better, no rule of the list gives better
  pub none_gives : (row : List Best) → NoneBetter offers row → (r x k e : ℕ) (ps : List Subgoal) → IsIn r list → Applies r n x k ps → Sums (with_row costs n row) ps e
      → k + e < 1099511627776 → ((best_at row x).cost < k + e) ⊎ (((best_at row x).cost ≡ k + e) × ((best_at row x).rule ≤ r))
  none_gives row none r x k e ps listed a sums lt =
      let (o, among, rule_is, left_is, cost) = gives_offer row r x k e ps listed a sums lt in
      let told = not_better (offer_cost o row) o.rule (best_at row o.left) (none o among) (omega (arith, cost, lt)) in
      let moved : ((best_at row x).cost < offer_cost o row) ⊎ (((best_at row x).cost ≡ offer_cost o row) × ((best_at row x).rule ≤ o.rule)) =
      subst (λ z. ((best_at row z).cost < offer_cost o row) ⊎ (((best_at row z).cost ≡ offer_cost o row) × ((best_at row z).rule ≤ o.rule))) left_is told in
      elim moved [
        | inl less ↦ inl (omega (arith, less, cost))
        | inr (same, first) ↦ inr (omega (arith, same, cost), omega (arith, first, rule_is))
      ]
