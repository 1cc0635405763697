-- The chosen cover exists wherever a cover does, is one, and its cost is the least.
use Rattle.std.proofs.Common.{◌≡◌, ℕ, ◌+◌, ◌-◌, ◌<◌, ◌≤◌, ◌⊎◌, List, [], ◌∷◌, length, arith, inl, inr, refl, sym, subst}
use Rattle.beg_model.specs.Fitting.{Subgoal}
use Rattle.beg_model.specs.Cover.{Application, Chains, Cover, Covers, Least, Reaches, Chosen, Instance, Stands, IsOne, IsOrderly, by_rule, on_top, here, there}
use Rattle.beg_model.specs.Cover as cover
use Rattle.beg_model.proofs.Grounded.{Grounded, ground, all_grounded}
use Rattle.beg_model.proofs.Search.{Tested, search_least, both, same_or_other, at_most_or_more}

-- a rule on top of a cover, with the parts apart
abbrev pub Tops : Application → ℕ → ℕ → ℕ → ℕ → Type 0
Tops Applies r n x d = (k : ℕ) × (e : ℕ) × (ps : List Subgoal) × Applies r n x k ps × Covers Applies ps e × (d ≡ k + e)

pub tops_of : {Applies : Application} {r n x d : ℕ} → Reaches Applies r n x d → Tops Applies r n x d
tops_of (on_top k e ps a covers) = (k, e, ps, a, covers, refl)

pub reaches_of : {Applies : Application} {r n x d : ℕ} → Tops Applies r n x d → Reaches Applies r n x d
reaches_of (k, e, ps, a, covers, total) = rw total (on_top k e ps a covers)

pub cover_of : {Applies : Application} {r n x d : ℕ} → Reaches Applies r n x d → Cover Applies n x d
cover_of {r = r} {n = n} {x = x} (on_top k e ps a covers) = by_rule r n x k e ps a covers

pub top_of : {Applies : Application} {n x d : ℕ} → Cover Applies n x d → (r : ℕ) × Reaches Applies r n x d
top_of (by_rule r n x k e ps a covers) = (r, on_top k e ps a covers)

pub split : {Applies : Application} {p : Subgoal} {rest : List Subgoal} {d : ℕ} → Covers Applies (p ∷ rest) d
    → (c : ℕ) × (e : ℕ) × Cover Applies p.node p.nonterminal c × Covers Applies rest e × (d ≡ c + e)
split (cover.one_more n x c e rest first others) = (c, e, first, others, refl)

pub none_costs : {Applies : Application} {d : ℕ} → Covers Applies [] d → d ≡ 0
none_costs cover.no_subgoal = refl

zero_or_more : (d : ℕ) → (d ≡ 0) ⊎ (0 < d)
zero_or_more d = grind arith

tested_covers : (Applies : Application) (ps : List Subgoal) (d : ℕ)
    → ((p : Subgoal) (e : ℕ) → IsOne p ps → e ≤ d → Tested (Cover Applies p.node p.nonterminal e))
    → Tested (Covers Applies ps d)
tested_covers Applies [] d each = elim (zero_or_more d) [
  | inl none ↦ inl (rw none cover.no_subgoal)
  | inr some ↦ inr (λ covers. (let e = none_costs covers in omega (arith, some, e)))
]
tested_covers Applies (p ∷ rest) d each = elim (search_least
    (λ c. Cover Applies p.node p.nonterminal c × Covers Applies rest (d - c)) (d + 1)
    (λ c lt. both (each p c (here rest) (omega (arith, lt)))
    (tested_covers Applies rest (d - c) (λ q e among le. each q e (there p rest among) (omega (arith, le, lt)))))) [
      | inl (c, lt, (first, others), none) ↦ inl (
          let total : d ≡ c + (d - c) = omega (arith, lt) in
          subst (λ z. Covers Applies (p ∷ rest) z) (sym total)
          (cover.one_more p.node p.nonterminal c (d - c) rest first others))
      | inr none ↦ inr (λ covers. (let (c, e, first, others, total) = split covers in
          let same : e ≡ d - c = omega (arith, total) in
          none c (omega (arith, total)) (first, subst (λ z. Covers Applies rest z) same others)))
    ]

module _ (Applies : Application) (Chain : Chains) (rules nonterminals : ℕ) (o : IsOrderly Applies Chain rules nonterminals) where
  tested_top : (r n x d : ℕ)
      → ((k e : ℕ) (ps : List Subgoal) (p : Subgoal) → Applies r n x k ps → IsOne p ps → k + e ≤ d
      → Tested (Cover Applies p.node p.nonterminal e))
      → Tested (Tops Applies r n x d)
  tested_top r n x d each = elim (o.test r n) [
    | inr none ↦ inr (λ (k, e, ps, a, covers, total). none x k ps a)
    | inl (y, k, ps, a) ↦ elim (same_or_other y x) [
      | inr other ↦ inr (λ (l, e, qs, b, covers, total). other (o.one r n y x k l ps qs a b).0)
      | inl same ↦ (let b : Applies r n x k ps = subst (λ z. Applies r n z k ps) same a in
          elim (at_most_or_more k d) [
            | inr more ↦ inr (λ (l, e, qs, c, covers, total). (let (_, costs, _) = o.one r n x x k l ps qs b c in
                omega (arith, more, total, costs)))
            | inl le ↦ elim (tested_covers Applies ps (d - k) (λ p e among less. each k e ps p b among (omega (arith, le, less)))) [
              | inl covers ↦ inl (k, d - k, ps, b, covers, omega (arith, le))
              | inr none ↦ inr (λ (l, e, qs, c, covers, total). (let (_, costs, places) = o.one r n x x k l ps qs b c in
                  let rest : e ≡ d - k = omega (arith, total, costs) in
                  none (subst (λ z. Covers Applies ps z) rest (subst (λ z. Covers Applies z e) (sym places) covers))))
            ]
          ])
    ]
  ]

  tested_cover : {n x d : ℕ} → Grounded Applies n x d → Tested (Cover Applies n x d)
  tested_cover (ground n x d next) = elim (search_least (λ r. Tops Applies r n x d) rules (λ r lt.
      tested_top r n x d (λ k e ps p a among le. tested_cover (next r k e ps p a among le)))) [
        | inl (r, lt, top, none) ↦ inl (cover_of (reaches_of top))
        | inr none ↦ inr (λ c. (let (r, top) = top_of c in let parts = tops_of top in
            let (k, e, ps, a, covers, total) = parts in none r (o.among r n x k ps a) parts))
      ]

  pub least_of_cover : (n x c : ℕ) → Cover Applies n x c → (d : ℕ) × (d ≤ c) × Least Applies n x d
  least_of_cover n x c some = elim (search_least (λ d. Cover Applies n x d) (c + 1) (λ d lt.
      tested_cover (all_grounded Applies Chain rules nonterminals o n x d))) [
        | inl (d, lt, reached, none) ↦ (
          d,
          omega (arith, lt),
          record {
            reached = reached;
            least = λ e other. elim (at_most_or_more d e) [
              | inl le ↦ le
              | inr less ↦ absurd (none e less other)
            ];
          },
        )
        | inr none ↦ absurd (none c (omega arith) some)
      ]

  pub chosen_of_least : (n x c : ℕ) → Least Applies n x c → (r : ℕ) × Chosen Applies n x c r
  chosen_of_least n x c least = elim (search_least (λ r. Tops Applies r n x c) rules (λ r lt.
      tested_top r n x c (λ k e ps p a among le. tested_cover (all_grounded Applies Chain rules nonterminals o p.node p.nonterminal e)))) [
        | inl (r, lt, top, none) ↦ (
          r,
          record {
            least = least;
            reaches = reaches_of top;
            first = λ q other. elim (at_most_or_more r q) [
              | inl le ↦ le
              | inr less ↦ absurd (none q less (tops_of other))
            ];
          },
        )
        | inr none ↦ absurd (let (r, top) = top_of least.reached in let parts = tops_of top in
            let (k, e, ps, a, covers, total) = parts in none r (o.among r n x k ps a) parts)
      ]

  -- a chosen rule at a place, with the instances below it
  abbrev pub Top : ℕ → Subgoal → Type 0
  Top first p = (c : ℕ) × (r : ℕ) × (k : ℕ) × (d : ℕ) × (ps : List Subgoal) × (below : List Instance) × (tops : List ℕ)
      × Chosen Applies p.node p.nonterminal c r × Applies r p.node p.nonterminal k ps × Stands Applies first ps below tops d

  stands_all : {ps : List Subgoal} {e : ℕ} → Covers Applies ps e
      → ((p : Subgoal) (c : ℕ) → IsOne p ps → c ≤ e → Cover Applies p.node p.nonterminal c → (first : ℕ) → Top first p)
      → (first : ℕ) → (list : List Instance) × (tops : List ℕ) × (d : ℕ) × Stands Applies first ps list tops d
  stands_all cover.no_subgoal each first = ([], [], 0, cover.no_subgoal first)
  stands_all (cover.one_more n x c e rest one others) each first =
      let p : Subgoal = record { node = n; nonterminal = x } in
      let (b, r, k, d, ps, below, tops, chosen, a, under) = each p c (here rest) (omega arith) one first in
      let (after, more, f, stand) = stands_all others (λ q g among le. each q g (there p rest among) (omega (arith, le)))
      (first + length below + 1) in
      (_, _, _, cover.one_more first r n x k b d f ps rest below after tops more chosen a under stand)

  stand : {n x c : ℕ} → Grounded Applies n x c → Least Applies n x c → (first : ℕ) → Top first (record { node = n; nonterminal = x })
  stand (ground n x c next) least first =
      let (r, chosen) = chosen_of_least n x c least in
      let (k, e, ps, a, covers, total) = tops_of chosen.reaches in
      let (below, tops, d, under) = stands_all covers (λ p b among le some.
      let (l, less, lowest) = least_of_cover p.node p.nonterminal b some in
      stand (next r k l ps p a among (omega (arith, le, total, less))) lowest) first in
      (c, r, k, d, ps, below, tops, chosen, a, under)

  -- the chosen cover exists wherever a cover does
  pub chosen_cover : (n x c first : ℕ) → Cover Applies n x c
      → (list : List Instance) × (tops : List ℕ) × (d : ℕ)
      × Stands Applies first (record { node = n; nonterminal = x } ∷ []) list tops d
  chosen_cover n x c first some =
      stands_all (cover.one_more n x c 0 [] some cover.no_subgoal) (λ p b among le other.
      let (l, less, lowest) = least_of_cover p.node p.nonterminal b other in
      stand (all_grounded Applies Chain rules nonterminals o p.node p.nonterminal l) lowest) first

  -- its cost is the least, for each place of a list and so for the sum
  pub least_sum : {first : ℕ} {ps : List Subgoal} {list : List Instance} {tops : List ℕ} {c : ℕ} → Stands Applies first ps list tops c
      → Covers Applies ps c × ((d : ℕ) → Covers Applies ps d → c ≤ d)
  least_sum (cover.no_subgoal first) = (cover.no_subgoal, λ d covers. omega arith)
  least_sum (cover.one_more first r n x k c d e ps rest below after tops others chosen a under more) =
      let (operands, low) = least_sum under in
      let (further, lower) = least_sum more in
      let (l, f, qs, b, covers, total) = tops_of chosen.reaches in
      let (_, costs, places) = o.one r n x x k l ps qs a b in
      let le = low f (subst (λ z. Covers Applies z f) (sym places) covers) in (
        cover.one_more n x (k + d) e rest (by_rule r n x k d ps a operands) further,
        λ z all. (let (g, h, first, others, sum) = split all in
            let top = chosen.least.least g first in
            let tail = lower h others in
            omega (arith, le, total, costs, top, tail, sum)),
      )

  pub chosen_cover_is_least : (n x c first : ℕ) (list : List Instance) (tops : List ℕ)
      → Stands Applies first (record { node = n; nonterminal = x } ∷ []) list tops c → Least Applies n x c
  chosen_cover_is_least n x c first list tops stands =
      let (covers, low) = least_sum stands in
      let (b, e, one, others, total) = split covers in
      let none = none_costs others in
      let same : c ≡ b = omega (arith, total, none) in
      record { reached = rw same one; least = λ d other. (let le = low (d + 0) (cover.one_more n x d 0 [] other cover.no_subgoal) in omega (arith, le)) }

  -- it is one
  one_chosen : (n x c d r q : ℕ) → Chosen Applies n x c r → Chosen Applies n x d q → r ≡ q
  one_chosen n x c d r q a b =
      let le = a.least.least d b.least.reached in
      let ge = b.least.least c a.least.reached in
      let same : d ≡ c = omega (arith, le, ge) in
      let first = a.first q (subst (λ z. Reaches Applies q n x z) same b.reaches) in
      let second = b.first r (subst (λ z. Reaches Applies r n x z) (sym same) a.reaches) in
      omega (arith, first, second)

  pub one_cover : (first : ℕ) (ps : List Subgoal) (l m : List Instance) (s t : List ℕ) (c d : ℕ)
      → Stands Applies first ps l s c → Stands Applies first ps m t d → (l ≡ m) × (s ≡ t) × (c ≡ d)
  one_cover first ps l m s t c d (cover.no_subgoal _) (cover.no_subgoal _) = (refl, refl, refl)
  one_cover first ps l m s t c d
      (cover.one_more _ r n x k b f e qs rest below after tops others chosen a under more)
      (cover.one_more _ r2 n2 x2 k2 b2 f2 e2 qs2 rest2 below2 after2 tops2 others2 chosen2 a2 under2 more2) =
      let rule : r2 ≡ r = sym (one_chosen n x b b2 r r2 chosen chosen2) in
      let (left, costs, places) = o.one r n x x k k2 qs qs2 a (subst (λ z. Applies z n x k2 qs2) rule a2) in
      let same = one_cover first qs below below2 tops tops2 f f2 under (subst (λ z. Stands Applies first z below2 tops2 f2) (sym places) under2) in
      let (list, numbers, sums) = same in
      let tail = one_cover (first + length below + 1) rest after after2 others others2 e e2 more
      (subst (λ z. Stands Applies (first + length z + 1) rest after2 others2 e2) (sym list) more2) in
      let (later, further, rests) = tail in
      (rw (rule, list, numbers, later), rw (list, further), omega (arith, costs, sums, rests))
