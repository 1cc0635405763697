-- Every way down through a cover ends: to a smaller node, or along a chain to a smaller cost, or along free chains.
use Rattle.std.proofs.Common.{◌≡◌, ℕ, zero, suc, ◌+◌, ◌<◌, ◌≤◌, ◌⊎◌, List, [], ◌∷◌, length, Bool, true, false, eqb, arith, inl, inr, refl, sym, subst, eqb-true}
use Rattle.std.specs.List.{IsDistinct, list_any, AllByRecursion}
use Rattle.std.proofs.lemmas.Map.Steps.{length-le_from_distinct_below}
use Rattle.beg_model.specs.Fitting.{Subgoal}
use Rattle.beg_model.specs.Cover.{Application, Chains, FreeWay, step, more, IsOne, IsOrderly}

-- every way of free chain rules from a nonterminal ends
pub data Ends (Chain : Chains) : ℕ → Type 0 where
  ends : (x : ℕ) → ((y : ℕ) → Chain x y 0 → Ends Chain y) → Ends Chain x

-- from each of these a free way leads to x
abbrev pub AllLead : Chains → List ℕ → ℕ → Type 0
AllLead Chain [] x = Unit {0}
AllLead Chain (v ∷ vs) x = FreeWay Chain v x × AllLead Chain vs x

pub way_and_step : {Chain : Chains} {x y : ℕ} (z : ℕ) → FreeWay Chain x y → Chain y z 0 → FreeWay Chain x z
way_and_step z (step x y s) t = more x y z s (step y z t)
way_and_step z (more x y w s rest) t = more x y z s (way_and_step z rest t)

pub all_lead_on : (Chain : Chains) (vs : List ℕ) (x y : ℕ) → AllLead Chain vs x → Chain x y 0 → AllLead Chain vs y
all_lead_on Chain [] x y all s = tt
all_lead_on Chain (v ∷ vs) x y (way, all) s = (way_and_step y way s, all_lead_on Chain vs x y all s)

-- all of them are below n
abbrev pub AllBelow : List ℕ → ℕ → Type 0
AllBelow [] n = Unit {0}
AllBelow (v ∷ vs) n = (v < n) × AllBelow vs n

pub is_equal : (b : Bool) → (b ≡ true) ⊎ (b ≡ false)
is_equal true = inl refl
is_equal false = inr refl

below_among : (vs : List ℕ) (n : ℕ) → AllBelow vs n → (q : ℕ) → list_any (eqb q) vs ≡ true → q < n
below_among [] n all q h = cc
below_among (v ∷ vs) n (first, all) q h = elim (is_equal (eqb q v)) [
  | inl same ↦ (let e = eqb-true q v same in omega (arith, first))
  | inr other ↦ below_among vs n all q (rw other at h)
]

pub at_most_below : (vs : List ℕ) (n : ℕ) → AllBelow vs n → IsDistinct eqb vs → length vs ≤ n
at_most_below vs n below distinct = length-le_from_distinct_below vs n distinct (below_among vs n below)

module _ (Chain : Chains) (n : ℕ) (within : (x y k : ℕ) → Chain x y k → (x < n) × (y < n))
    (none : (x : ℕ) → FreeWay Chain x x → ⊥) where
  -- a nonterminal that all of these lead to is none of them
  apart_from_ways : (vs : List ℕ) (y : ℕ) → AllLead Chain vs y → AllByRecursion (λ v. eqb y v ≡ false) vs
  apart_from_ways [] y all = tt
  apart_from_ways (v ∷ vs) y (way, all) = (
    elim (is_equal (eqb y v)) [
      | inl same ↦ absurd (none y (subst (λ z. FreeWay Chain z y) (sym (eqb-true y v same)) way))
      | inr other ↦ other
    ],
    apart_from_ways vs y all,
  )

  ends_after : (fuel : ℕ) (seen : List ℕ) (x : ℕ) → AllLead Chain seen x → IsDistinct eqb (x ∷ seen)
      → AllBelow (x ∷ seen) n → n ≤ fuel + length seen → Ends Chain x
  unfolding IsDistinct
  ends_after zero seen x all distinct below enough =
      absurd (let most = at_most_below (x ∷ seen) n below distinct in omega (arith, most, enough))
  ends_after (suc fuel) seen x all distinct below enough = ends x (λ y s.
      let on : AllLead Chain (x ∷ seen) y = (step x y s, all_lead_on Chain seen x y all s) in
      ends_after fuel (x ∷ seen) y on (apart_from_ways (x ∷ seen) y on, distinct) ((within x y 0 s).1, below) (omega (arith, enough)))

  pub all_end : (x : ℕ) → Ends Chain x
  unfolding IsDistinct
  all_end x = ends x (λ y s. ends_after n [] y tt (tt, tt) ((within x y 0 s).1, tt) (omega arith))

-- every way down from a place, within a cost, ends
pub data Grounded (Applies : Application) : ℕ → ℕ → ℕ → Type 0 where
  ground : (n x d : ℕ)
      → ((r k e : ℕ) (ps : List Subgoal) (p : Subgoal) → Applies r n x k ps → IsOne p ps → k + e ≤ d
      → Grounded Applies p.node p.nonterminal e)
      → Grounded Applies n x d

same_or_less : (k e d : ℕ) → k + e ≤ d → ((e ≡ d) × (k ≡ 0)) ⊎ (e < d)
same_or_less k e d h = grind arith

module _ (Applies : Application) (Chain : Chains) (rules nonterminals : ℕ) (o : IsOrderly Applies Chain rules nonterminals) where
  ground_chain : (n d x : ℕ) → ((m y e : ℕ) → m < n → Grounded Applies m y e)
      → ((y e : ℕ) → e < d → Grounded Applies n y e) → Ends Chain x → Grounded Applies n x d
  ground_chain n d x smaller cheaper (ends _ next) = ground n x d (λ r k e ps p a among le.
      elim (o.falls r n x k ps p a among) [
        | inl less ↦ smaller p.node p.nonterminal e less
        | inr (same, chain) ↦ elim (same_or_less k e d le) [
          | inl (all, free) ↦ rw (same, all) (ground_chain n d p.nonterminal smaller cheaper
              (next p.nonterminal (rw free at chain)))
          | inr less ↦ rw same (cheaper p.nonterminal e less)
        ]
      ])

  ground_cost : (n : ℕ) → ((m y e : ℕ) → m < n → Grounded Applies m y e) → (fuel x d : ℕ) → d < fuel → Grounded Applies n x d
  ground_cost n smaller zero x d h = absurd (omega (arith, h))
  ground_cost n smaller (suc fuel) x d h = ground_chain n d x smaller (λ y e less. ground_cost n smaller fuel y e (omega (arith, h, less)))
      (all_end Chain nonterminals o.within o.no_free_cycle x)

  ground_node : (fuel n x d : ℕ) → n < fuel → Grounded Applies n x d
  ground_node zero n x d h = absurd (omega (arith, h))
  ground_node (suc fuel) n x d h = ground_cost n (λ m y e less. ground_node fuel m y e (omega (arith, h, less))) (d + 1) x d (omega arith)

  pub all_grounded : (n x d : ℕ) → Grounded Applies n x d
  all_grounded n x d = ground_node (n + 1) n x d (omega arith)
