-- Labels that are closed at each node, below a bound that no least cost reaches, are the least costs and the chosen rules.
use Rattle.std.proofs.Common.{◌≡◌, ℕ, ◌+◌, ◌<◌, ◌≤◌, ◌⊎◌, List, [], ◌∷◌, Option, Some, None, inl, inr, arith, refl, sym, subst, ◌∙◌}
use Rattle.beg_model.specs.Fitting.{Subgoal}
use Rattle.beg_model.specs.Cover.{Application, Chains, Least, IsOne, here, there, IsOrderly}
use Rattle.beg_model.specs.Labels.{Costs, Sums, IsLeastAndChosen}
use Rattle.beg_model.specs.Closed.{ClosedAt}
use Rattle.beg_model.specs.Labels as labels
use Rattle.beg_model.proofs.Capped.{under_of_capped}
use Rattle.beg_model.proofs.Closing.{Over, Under, IsFirstRule, consistent, chosen_of_labels}
use Rattle.beg_model.proofs.LocalLabels.{no_cover_without_label}

some_same : {o : Option ℕ} {a b : ℕ} → o ≡ Some a → o ≡ Some b → a ≡ b
some_same e f = cc

module _ (Applies : Application) (Chain : Chains) (count nonterminals cap : ℕ) (o : IsOrderly Applies Chain count nonterminals)
    (bound : (n x c : ℕ) → Least Applies n x c → c < cap) (costs rules : Costs) (closed : (n : ℕ) → ClosedAt Applies cap costs rules n) where
  all_over : Over Applies costs
  all_over n x c is = let (r, k, e, ps, rule, a, sums, le, lt) = (closed n).over x c is in (r, k, e, ps, a, sums, le)

  at_most : (c q k e r : ℕ) → (c < k + e) ⊎ ((c ≡ k + e) × (q ≤ r)) → c ≤ k + e
  at_most c q k e r (inl less) = omega (arith, less)
  at_most c q k e r (inr (same, first)) = omega (arith, same)

  all_under : Under Applies costs
  all_under = under_of_capped Applies costs cap (λ r n x k e ps a sums lt.
      (let (c, q, is, rule, cases) = (closed n).first r x k e ps a sums lt in (c, is, at_most c q k e r cases)))
      Chain count nonterminals o bound all_over

  first_of : (c q k e r : ℕ) → (c < k + e) ⊎ ((c ≡ k + e) × (q ≤ r)) → c ≡ k + e → q ≤ r
  first_of c q k e r (inl less) same = absurd (omega (arith, less, same))
  first_of c q k e r (inr (alike, first)) same = first

  all_first : (n x c : ℕ) → costs n x ≡ Some c → IsFirstRule Applies costs rules n x c
  all_first n x c is =
      let (r, k, e, ps, rule, a, sums, le, lt) = (closed n).over x c is in
      let (d, other, under) = all_under r n x k e ps a sums in
      let same = some_same is other in
      record {
        rule = r;
        is_rule = rule;
        k = k;
        e = e;
        ps = ps;
        applies = a;
        sums = sums;
        gives = omega (arith, le, under, same);
        first = λ q l f qs b more total. (let (g, p, label, chosen, cases) = (closed n).first q x l f qs b more (omega (arith, lt, total)) in
            let one = some_same is label in let rule_same = some_same rule chosen in
            let first = first_of g p l f q cases (omega (arith, one, total)) in omega (arith, rule_same, first));
      }

  pub all_chosen : (n x : ℕ) → IsLeastAndChosen Applies n x (costs n x) (rules n x)
  all_chosen n x = go (costs n x) refl
    where
      go : (label : Option ℕ) → costs n x ≡ label → IsLeastAndChosen Applies n x label (rules n x)
      go None is = (λ c cover. no_cover_without_label Applies costs rules (consistent Applies costs rules all_under all_first) n x c is cover, (closed n).none x is)
      go (Some c) is = chosen_of_labels Applies Chain count nonterminals o costs rules all_under all_first n x c is

-- sums of labels that agree at the places
pub sums_alike : (costs others : Costs) (ps : List Subgoal) (e : ℕ) → ((q : Subgoal) → IsOne q ps → costs q.node q.nonterminal ≡ others q.node q.nonterminal) → Sums costs ps e → Sums others ps e
sums_alike costs others _ _ same labels.no_subgoal = labels.no_subgoal
sums_alike costs others _ _ same (labels.one_more n x c d rest is more) =
    labels.one_more n x c d rest (sym (same (record { node = n; nonterminal = x }) (here rest)) ∙ is) (sums_alike costs others rest d (λ q one. same q (there _ rest one)) more)

-- a closed node stays closed where labels of its own and of lower nodes stay
pub closed_kept : (Applies : Application) (cap : ℕ) (costs rules others more : Costs) (m : ℕ)
    → ((r x k : ℕ) (ps : List Subgoal) (q : Subgoal) → Applies r m x k ps → IsOne q ps → q.node ≤ m)
    → ((q y : ℕ) → q ≤ m → costs q y ≡ others q y) → ((y : ℕ) → rules m y ≡ more m y) → ClosedAt Applies cap costs rules m → ClosedAt Applies cap others more m
closed_kept Applies cap costs rules others more m low same alike closed = record {
  over = λ x c is. (let (r, k, e, ps, rule, a, sums, le, lt) = closed.over x c (same m x (omega arith) ∙ is) in
      (r, k, e, ps, sym (alike x) ∙ rule, a, sums_alike costs others ps e (λ q one. same q.node q.nonterminal (low r x k ps q a one)) sums, le, lt));
  first = λ r x k e ps a sums lt. (let (c, q, is, rule, cases) = closed.first r x k e ps a
      (sums_alike others costs ps e (λ q one. sym (same q.node q.nonterminal (low r x k ps q a one))) sums) lt in
      (c, q, sym (same m x (omega arith)) ∙ is, sym (alike x) ∙ rule, cases));
  none = λ x is. sym (alike x) ∙ closed.none x (same m x (omega arith) ∙ is);
}

-- a node without labels at which only chain rules apply is closed
pub closed_blank : (Applies : Application) (cap : ℕ) (costs rules : Costs) (n : ℕ)
    → ((r x k : ℕ) (ps : List Subgoal) → Applies r n x k ps → (y : ℕ) × (ps ≡ record { node = n; nonterminal = y } ∷ []))
    → ((x : ℕ) → costs n x ≡ None) → ((x : ℕ) → rules n x ≡ None) → ClosedAt Applies cap costs rules n
closed_blank Applies cap costs rules n chains blank empty = record {
  over = λ x c is. absurd (let no_label : None ≡ Some c = sym (blank x) ∙ is in cc);
  first = λ r x k e ps a sums lt. absurd (let (y, places) = chains r x k ps a in
      none_at n y e (blank y) (subst (λ z. Sums costs z e) places sums));
  none = λ x is. empty x;
}
  where
    none_at : (n y e : ℕ) → costs n y ≡ None → Sums costs (record { node = n; nonterminal = y } ∷ []) e → ⊥
    none_at n y e blank_is (labels.one_more _ _ c d _ is more) = let no_label : None ≡ Some c = sym blank_is ∙ is in cc
