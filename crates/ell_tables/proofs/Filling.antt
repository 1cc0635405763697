-- One rule and terminal more.
use Rattle.std.proofs.Common.{◌≡◌, ℕ, ◌<◌, ◌⊎◌, inl, inr, Option, Some, None, refl, sym, ◌∙◌, arith}
use Rattle.std.proofs.lemmas.Bool.{cases_eq, cases_lt}
use Rattle.ell_tables.specs.declared.fill.Clash.{Clash}
use Rattle.ell_tables.specs.within.Fill.{Clashes, Precedes, IsLeastClash, Filled}

pub precedes_then : (a b c : Clash) → Precedes a b → Precedes b c → Precedes a c
precedes_then a b c (inl x) (inl y) = inl (omega arith)
precedes_then a b c (inl x) (inr (e, y)) = inl (omega arith)
precedes_then a b c (inr (d, x)) (inl y) = inl (omega arith)
precedes_then a b c (inr (d, inl x)) (inr (e, inl y)) = inr (d ∙ e, inl (omega arith))
precedes_then a b c (inr (d, inl x)) (inr (e, inr (h, y))) = inr (d ∙ e, inl (omega arith))
precedes_then a b c (inr (d, inr (i, x))) (inr (e, inl y)) = inr (d ∙ e, inl (omega arith))
precedes_then a b c (inr (d, inr (i, inl x))) (inr (e, inr (h, inl y))) = inr (d ∙ e, inr (i ∙ h, inl (omega arith)))
precedes_then a b c (inr (d, inr (i, inl x))) (inr (e, inr (h, inr (k, y)))) = inr (d ∙ e, inr (i ∙ h, inl (omega arith)))
precedes_then a b c (inr (d, inr (i, inr (j, x)))) (inr (e, inr (h, inl y))) = inr (d ∙ e, inr (i ∙ h, inl (omega arith)))
precedes_then a b c (inr (d, inr (i, inr (j, x)))) (inr (e, inr (h, inr (k, y)))) = inr (d ∙ e, inr (i ∙ h, inr (j ∙ k, omega arith)))

module _ (S Q : ℕ → ℕ → ℕ → Type 0) (n t q : ℕ) (from_old : (m u r : ℕ) → S m u r → Q m u r) (here : Q n t q) (some : 0 < q)
    (only : (m u r : ℕ) → Q m u r → S m u r ⊎ ((m ≡ n) × (u ≡ t) × (r ≡ q))) (later : (r : ℕ) → S n t r → r < q)
    (cell : ℕ → ℕ → ℕ) (found : Option Clash) (before : Filled S cell found) where
  positive_new : (m u r : ℕ) → Q m u r → 0 < r
  positive_new m u r new = elim (only m u r new) [ inl was ↦ before.positive m u r was | inr (_, _, is) ↦ (let x = is in omega arith) ]

  -- a new clash is between a rule that was seen and this one
  new_clash : (c : Clash) → Clashes Q c → Clashes S c ⊎ ((c.nonterminal ≡ n) × (c.terminal ≡ t) × (c.other ≡ q) × S n t c.rule)
  new_clash c (less, first, second) = elim (only c.nonterminal c.terminal c.rule first) [
    | inl was ↦ elim (only c.nonterminal c.terminal c.other second) [
      | inl also ↦ inl (less, was, also)
      | inr (is_n, is_t, is_q) ↦ inr (is_n, is_t, is_q, rw (is_n, is_t) at was)
    ]
    | inr (is_n, is_t, is_r) ↦ elim (only c.nonterminal c.terminal c.other second) [
      | inl also ↦ (let low = later c.other (rw (is_n, is_t) at also) in absurd (omega arith))
      | inr (_, _, is_q) ↦ absurd (omega arith)
    ]
  ]

  -- the cell was free
  pub fill_free : (filled : ℕ → ℕ → ℕ) → cell n t ≡ 0 → filled n t ≡ q → ((m u : ℕ) → (m ≡ n → u ≡ t → ⊥) → filled m u ≡ cell m u) → Filled Q filled found
  fill_free filled free own other = record {
    positive = positive_new;
    none_seen = λ m u r zero_cell new. elim (only m u r new) [
      | inl was ↦ elim (cases_eq m n) [
        | inl m_is ↦ elim (cases_eq u t) [
          | inl u_is ↦ (let e : filled n t ≡ 0 = rw (← m_is, ← u_is) zero_cell in omega arith)
          | inr u_not ↦ before.none_seen m u r (sym (other m u (λ _ e. u_not e)) ∙ zero_cell) was
        ]
        | inr m_not ↦ before.none_seen m u r (sym (other m u (λ e _. m_not e)) ∙ zero_cell) was
      ]
      | inr (m_is, u_is, _) ↦ (let e : filled n t ≡ 0 = rw (← m_is, ← u_is) zero_cell in omega arith)
    ];
    seen = λ m u some_cell. elim (cases_eq m n) [
      | inl m_is ↦ elim (cases_eq u t) [
        | inl u_is ↦ rw (m_is, u_is, own) here
        | inr u_not ↦ (let e = other m u (λ _ e. u_not e) in rw e (from_old m u (cell m u) (before.seen m u (rw e at some_cell))))
      ]
      | inr m_not ↦ (let e = other m u (λ e _. m_not e) in rw e (from_old m u (cell m u) (before.seen m u (rw e at some_cell))))
    ];
    least = λ m u r new. elim (only m u r new) [
      | inl was ↦ elim (cases_eq m n) [
        | inl m_is ↦ elim (cases_eq u t) [
          | inl u_is ↦ absurd (before.none_seen n t r free (rw (m_is, u_is) at was))
          | inr u_not ↦ (let e = other m u (λ _ e. u_not e) in rw e (before.least m u r was))
        ]
        | inr m_not ↦ (let e = other m u (λ e _. m_not e) in rw e (before.least m u r was))
      ]
      | inr (m_is, u_is, r_is) ↦ rw (m_is, u_is, r_is, own) (omega arith)
    ];
    best = best_free found before.best;
  }
    where
      none_new : (c : Clash) → Clashes Q c → Clashes S c
      none_new c new = elim (new_clash c new) [
        | inl was ↦ was
        | inr (_, _, _, seen) ↦ absurd (before.none_seen n t c.rule free seen)
      ]

      best_free : (found : Option Clash) → IsLeastClash S found → IsLeastClash Q found
      best_free None none_is = λ c new. none_is c (none_new c new)
      best_free (Some b) (is, least) = ((is.0, from_old b.nonterminal b.terminal b.rule is.1, from_old b.nonterminal b.terminal b.other is.2), λ c new. least c (none_new c new))

  -- the cell has a rule already
  abbrev candidate : Clash
  candidate = record { nonterminal = n; rule = cell n t; other = q; terminal = t }

  candidate_least : 0 < cell n t → (c : Clash) → (c.nonterminal ≡ n) × (c.terminal ≡ t) × (c.other ≡ q) × S n t c.rule → Precedes candidate c
  candidate_least taken c (is_n, is_t, is_q, seen) =
      let low = before.least n t c.rule seen in
      elim (cases_lt (cell n t) c.rule) [
        | inl less ↦ inr (sym is_n, inl less)
        | inr not_less ↦ inr (sym is_n, inr (omega arith, inr (sym is_q, omega arith)))
      ]

  pub fill_clash : (new : Option Clash) → 0 < cell n t → (lesser : (b : Clash) → found ≡ Some b → (c : Clash) × (new ≡ Some c) × ((c ≡ b) ⊎ (c ≡ candidate)) × Precedes c b × Precedes c candidate)
      → (first : found ≡ None → new ≡ Some candidate) → Filled Q cell new
  fill_clash new taken lesser first = record {
    positive = positive_new;
    none_seen = λ m u r zero_cell seen. elim (only m u r seen) [
      | inl was ↦ before.none_seen m u r zero_cell was
      | inr (m_is, u_is, _) ↦ (let e : cell n t ≡ 0 = rw (← m_is, ← u_is) zero_cell in omega arith)
    ];
    seen = λ m u some_cell. from_old m u (cell m u) (before.seen m u some_cell);
    least = λ m u r seen. elim (only m u r seen) [
      | inl was ↦ before.least m u r was
      | inr (m_is, u_is, r_is) ↦ (let low = later (cell n t) (before.seen n t taken) in rw (m_is, u_is, r_is) (omega arith))
    ];
    best = best_clash found refl before.best;
  }
    where
      candidate_is : Clashes Q candidate
      candidate_is = (later (cell n t) (before.seen n t taken), from_old n t (cell n t) (before.seen n t taken), here)

      best_clash : (old : Option Clash) → found ≡ old → IsLeastClash S old → IsLeastClash Q new
      best_clash None is none_is = rw (first is) (
        candidate_is,
        λ c seen. elim (new_clash c seen) [
          | inl was ↦ absurd (none_is c was)
          | inr made ↦ candidate_least taken c made
        ],
      )
      best_clash (Some b) is (clash, least) =
          let (c, new_is, which, before_b, before_new) = lesser b is in
          let there : Clashes Q c = elim which [
            | inl same ↦ rw same (clash.0, from_old b.nonterminal b.terminal b.rule clash.1, from_old b.nonterminal b.terminal b.other clash.2)
            | inr same ↦ rw same candidate_is
          ] in
          rw new_is (
            there,
            λ d seen. elim (new_clash d seen) [
              | inl was ↦ precedes_then c b d before_b (least d was)
              | inr made ↦ precedes_then c candidate d before_new (candidate_least taken d made)
            ],
          )

-- the same was seen
pub filled_same : (S Q : ℕ → ℕ → ℕ → Type 0) (cell : ℕ → ℕ → ℕ) (found : Option Clash) → ((n t r : ℕ) → S n t r → Q n t r) → ((n t r : ℕ) → Q n t r → S n t r)
    → Filled S cell found → Filled Q cell found
filled_same S Q cell found to from filled = record {
  positive = λ n t r seen. filled.positive n t r (from n t r seen);
  none_seen = λ n t r zero_cell seen. filled.none_seen n t r zero_cell (from n t r seen);
  seen = λ n t some. to n t (cell n t) (filled.seen n t some);
  least = λ n t r seen. filled.least n t r (from n t r seen);
  best = best_same found filled.best;
}
  where
    best_same : (found : Option Clash) → IsLeastClash S found → IsLeastClash Q found
    best_same None none_is = λ c (less, a, b). none_is c (less, from c.nonterminal c.terminal c.rule a, from c.nonterminal c.terminal c.other b)
    best_same (Some b) (is, least) =
        ((is.0, to b.nonterminal b.terminal b.rule is.1, to b.nonterminal b.terminal b.other is.2), λ c (less, x, y). least c (less, from c.nonterminal c.terminal c.rule x, from c.nonterminal c.terminal c.other y))
