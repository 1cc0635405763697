-- Closing the labels: they only fall, each stays at least what some rule gives, and at the end no rule undercuts.
use Rattle.std.proofs.Common.{◌≡◌, ℕ, ◌+◌, ◌<◌, ◌≤◌, ◌⊎◌, List, Option, Some, None, arith, inl, inr, refl, sym, subst, ◌∙◌}
use Rattle.beg_model.specs.Fitting.{Subgoal}
use Rattle.beg_model.specs.Cover.{Application, Chains, Chosen, IsOrderly}
use Rattle.beg_model.specs.Labels.{Costs, Sums, IsConsistent}
use Rattle.beg_model.specs.Labels as labels
use Rattle.beg_model.proofs.ChosenCover.{tops_of}
use Rattle.beg_model.proofs.Grounded.{all_grounded}
use Rattle.beg_model.proofs.LocalLabels.{below_covers, label_is_least, reached}

-- labels fill or fall
abbrev pub Lower : Costs → Costs → Type 0
Lower f g = (n x c : ℕ) → f n x ≡ Some c → (d : ℕ) × (g n x ≡ Some d) × (d ≤ c)

pub sums_lower : (f g : Costs) → Lower f g → {ps : List Subgoal} {s : ℕ} → Sums f ps s → (t : ℕ) × Sums g ps t × (t ≤ s)
sums_lower f g lower labels.no_subgoal = (0, labels.no_subgoal, omega arith)
sums_lower f g lower (labels.one_more n x c d rest is sums) =
    let (b, label, le) = lower n x c is in
    let (t, more, less) = sums_lower f g lower sums in
    (b + t, labels.one_more n x b t rest label more, omega (arith, le, less))

some_same : {o : Option ℕ} {a b : ℕ} → o ≡ Some a → o ≡ Some b → a ≡ b
some_same e f = cc

pub one_sum : (f : Costs) {ps : List Subgoal} {s t : ℕ} → Sums f ps s → Sums f ps t → s ≡ t
one_sum f labels.no_subgoal labels.no_subgoal = refl
one_sum f (labels.one_more n x c d rest is sums) (labels.one_more _ _ c2 d2 _ is2 sums2) =
    let e = some_same is is2 in
    let more = one_sum f sums sums2 in
    omega (arith, e, more)

-- each label is at least what some rule gives
abbrev pub Over : Application → Costs → Type 0
Over Applies f = (n x c : ℕ) → f n x ≡ Some c
    → (r : ℕ) × (k : ℕ) × (e : ℕ) × (ps : List Subgoal) × Applies r n x k ps × Sums f ps e × (k + e ≤ c)

-- no rule undercuts or fills a label
abbrev pub Under : Application → Costs → Type 0
Under Applies f = (r n x k e : ℕ) (ps : List Subgoal) → Applies r n x k ps → Sums f ps e
    → (c : ℕ) × (f n x ≡ Some c) × (c ≤ k + e)

-- g is f with the label c at one pair
pub record IsPut (f g : Costs) (n x c : ℕ) : Type 0 where
  pub here : g n x ≡ Some c
  pub others : (m y : ℕ) → ((m ≡ n) × (y ≡ x)) ⊎ (g m y ≡ f m y)

-- the pair has no label, or one that costs more
abbrev pub IsAbove : Option ℕ → ℕ → Type 0
IsAbove None c = Unit {0}
IsAbove (Some d) c = c < d

above_some : {o : Option ℕ} {d c : ℕ} → o ≡ Some d → IsAbove o c → c < d
above_some {c = c} e above = subst (λ z. IsAbove z c) e above

put_lowers : (f g : Costs) (n x c : ℕ) → IsPut f g n x c → IsAbove (f n x) c → Lower f g
put_lowers f g n x c put above m y d is = elim (put.others m y) [
  | inl (same, alike) ↦ (let fxd : f n x ≡ Some d = subst (λ z. f z x ≡ Some d) same (subst (λ z. f m z ≡ Some d) alike is) in
      let less = above_some fxd above in
      (c, subst (λ z. g z y ≡ Some c) (sym same) (subst (λ z. g n z ≡ Some c) (sym alike) put.here), omega (arith, less)))
  | inr other ↦ (d, other ∙ is, omega arith)
]

-- one improvement: each label stays at least what some rule gives
pub improved : (Applies : Application) (f g : Costs) (r n x k e : ℕ) (ps : List Subgoal) → Applies r n x k ps → Sums f ps e
    → IsPut f g n x (k + e) → IsAbove (f n x) (k + e) → Over Applies f → Lower f g × Over Applies g
improved Applies f g r n x k e ps a sums put above over =
    let lower = put_lowers f g n x (k + e) put above in (
      lower,
      λ m y c is. elim (put.others m y) [
        | inl (same, alike) ↦ (let (t, more, le) = sums_lower f g lower sums in
            let gxc : g n x ≡ Some c = subst (λ z. g z x ≡ Some c) same (subst (λ z. g m z ≡ Some c) alike is) in
            let total = some_same put.here gxc in (
              r,
              k,
              t,
              ps,
              subst (λ z. Applies r z y k ps) (sym same) (subst (λ z. Applies r n z k ps) (sym alike) a),
              more,
              omega (arith, le, total),
            ))
        | inr other ↦ (let (q, l, d, qs, b, others, le) = over m y c (sym other ∙ is) in
            let (t, more, less) = sums_lower f g lower others in
            (q, l, t, qs, b, more, omega (arith, le, less)))
      ],
    )

-- the rule is the first that gives the label
pub record IsFirstRule (Applies : Application) (f rules : Costs) (n x c : ℕ) : Type 0 where
  pub rule : ℕ
  pub is_rule : rules n x ≡ Some rule
  pub k : ℕ
  pub e : ℕ
  pub ps : List Subgoal
  pub applies : Applies rule n x k ps
  pub sums : Sums f ps e
  pub gives : c ≡ k + e
  pub first : (q l d : ℕ) (qs : List Subgoal) → Applies q n x l qs → Sums f qs d → c ≡ l + d → rule ≤ q

-- some rule gives each label when no rule undercuts
pub exact : (Applies : Application) (f : Costs) → Over Applies f → Under Applies f → (n x c : ℕ) → f n x ≡ Some c
    → (r : ℕ) × (k : ℕ) × (e : ℕ) × (ps : List Subgoal) × Applies r n x k ps × Sums f ps e × (c ≡ k + e)
exact Applies f over under n x c is =
    let (r, k, e, ps, a, sums, le) = over n x c is in
    let (d, label, less) = under r n x k e ps a sums in
    let same = some_same is label in
    (r, k, e, ps, a, sums, omega (arith, le, less, same))

pub consistent : (Applies : Application) (f rules : Costs) → Under Applies f
    → ((n x c : ℕ) → f n x ≡ Some c → IsFirstRule Applies f rules n x c) → IsConsistent Applies f rules
consistent Applies f rules under first n x = record {
  own = λ c is. (let r = first n x c is in (r.rule, r.k, r.e, r.ps, r.is_rule, r.applies, r.sums, r.gives));
  under = λ r k e ps a sums. under r n x k e ps a sums;
}

-- closed labels with the first rules are the least costs and the chosen rules
pub chosen_of_labels : (Applies : Application) (Chain : Chains) (count nonterminals : ℕ)
    → IsOrderly Applies Chain count nonterminals → (f rules : Costs) → Under Applies f
    → ((n x c : ℕ) → f n x ≡ Some c → IsFirstRule Applies f rules n x c)
    → (n x c : ℕ) → f n x ≡ Some c → (r : ℕ) × (rules n x ≡ Some r) × Chosen Applies n x c r
chosen_of_labels Applies Chain count nonterminals o f rules under first n x c is =
    let all = consistent Applies f rules under first in
    let least = label_is_least Applies f rules all n x c (all_grounded Applies Chain count nonterminals o n x c) is in
    let own = first n x c is in (
      own.rule,
      own.is_rule,
      record {
        least = least;
        reaches = reached Applies f rules all (λ p b. all_grounded Applies Chain count nonterminals o p.node p.nonterminal b)
            own.rule n x own.k own.e c own.ps own.applies own.sums own.gives;
        first = λ q other. (let (l, d, qs, b, covers, total) = tops_of other in
            let (s, sums, le) = below_covers Applies f rules all covers in
            let (z, label, under_z) = under q n x l s qs b sums in
            let same = some_same is label in
            own.first q l s qs b sums (omega (arith, le, under_z, same, total)));
      },
    )
