-- The cells as rows of one width.
use Rattle.std.proofs.Common.{◌≡◌, ℕ, ◌+◌, ◌*◌, ◌<◌, ◌≤◌, ◌⊎◌, inl, inr, ltb, List, length, Option, Some, set, slice_get, slice_index, refl, sym, ◌∙◌, ap, subst, arith, length-set, get_or-set_same, get_or-set_other}
use Rattle.std.proofs.Math.Nat.{mul-le-mul_right}
use Rattle.std.proofs.lemmas.Bool.{cases_eq, cases_lt, cases_Bool, ltb-true, lt-ltb}
use Rattle.ck_base.specs.BitSet.{BitSet}
use Rattle.cfg_model.specs.Cfg.{Rule}
use Rattle.cfg_model.specs.Rows.{row, In}
use Rattle.ell_tables.specs.declared.fill.Clash.{Clash}
use Rattle.ell_tables.specs.within.Fill.{Filled, IsLesser, Seen, cell_at}
use Rattle.ell_tables.proofs.Filling.{fill_free, fill_clash, filled_same}

pub same_place : (w n t m u : ℕ) → t < w → u < w → n * w + t ≡ m * w + u → (n ≡ m) × (t ≡ u)
same_place w n t m u t_in u_in same = elim (cases_lt n m) [
  | inl less ↦ (let more = mul-le-mul_right {m = n + 1} {n = m} w (omega arith) in absurd (omega arith))
  | inr not_less ↦ elim (cases_lt m n) [
    | inl less ↦ (let more = mul-le-mul_right {m = m + 1} {n = n} w (omega arith) in absurd (omega arith))
    | inr also ↦
        let number : n ≡ m = omega arith in
        let moved : m * w + t ≡ m * w + u = rw number at same in
        (number, omega arith)
  ]
]

module _ (w : ℕ) (cells : List ℕ) where
  pub cell_inside : (n t : ℕ) → t < w → cell_at w cells n t ≡ slice_index cells (n * w + t)
  cell_inside n t below = rw (lt-ltb t w below) refl

  pub cell_outside : (n t : ℕ) → w ≤ t → cell_at w cells n t ≡ 0
  cell_outside n t past = elim (cases_Bool (ltb t w)) [
    | inl below ↦ absurd (let lt = ltb-true t w below in omega arith)
    | inr not_below ↦ rw not_below refl
  ]

module _ (rules : List Rule) (sets : List BitSet) (w k : ℕ) (one : Rule) (is : slice_get rules k ≡ Some one) where
  -- the terminal isn't in the rule's set
  pub seen_same : (t : ℕ) (cell : ℕ → ℕ → ℕ) (found : Option Clash) → (In sets k t → ⊥) → Filled (Seen rules sets k t) cell found → Filled (Seen rules sets k (t + 1)) cell found
  seen_same t cell found lacks = filled_same (Seen rules sets k t) (Seen rules sets k (t + 1)) cell found
      (λ n u r s. record { place = s.place; one = s.one; number = s.number; is_rule = s.is_rule; left = s.left; has = s.has; before = elim s.before [ inl l ↦ inl l | inr b ↦ inr (b.0, omega arith) ] })
      (λ n u r s. record {
        place = s.place;
        one = s.one;
        number = s.number;
        is_rule = s.is_rule;
        left = s.left;
        has = s.has;
        before = elim s.before [
          | inl l ↦ inl l
          | inr b ↦ elim (cases_eq u t) [
            | inl same ↦ absurd (lacks (subst (λ (j : ℕ). In sets j t) b.0 (subst (λ (x : ℕ). In sets s.place x) same s.has)))
            | inr other ↦ inr (b.0, (let lt = b.1 in omega arith))
          ]
        ];
      })

  -- the rule's terminals are all seen
  pub seen_rule : (t : ℕ) (cell : ℕ → ℕ → ℕ) (found : Option Clash) → w ≤ t → (row sets k).size ≡ w → Filled (Seen rules sets k t) cell found → Filled (Seen rules sets (k + 1) 0) cell found
  seen_rule t cell found all size = filled_same (Seen rules sets k t) (Seen rules sets (k + 1) 0) cell found
      (λ n u r s. record {
        place = s.place;
        one = s.one;
        number = s.number;
        is_rule = s.is_rule;
        left = s.left;
        has = s.has;
        before = inl (elim s.before [ inl l ↦ (let x = l in omega arith) | inr b ↦ (let x = b.0 in omega arith) ]);
      })
      (λ n u r s. record {
        place = s.place;
        one = s.one;
        number = s.number;
        is_rule = s.is_rule;
        left = s.left;
        has = s.has;
        before = elim s.before [
          | inl l ↦ elim (cases_eq s.place k) [
            | inl here ↦ inr (here, (let below = (subst (λ (j : ℕ). In sets j u) here s.has).0 in omega arith))
            | inr other ↦ inl (omega arith)
          ]
          | inr b ↦ absurd (let x = b.1 in omega arith)
        ];
      })

  module _ (t : ℕ) (t_in : t < w) (has : In sets k t) (cells : List ℕ) (found : Option Clash)
      (before : Filled (Seen rules sets k t) (cell_at w cells) found) where
    from_old : (n u r : ℕ) → Seen rules sets k t n u r → Seen rules sets k (t + 1) n u r
    from_old n u r s = record { place = s.place; one = s.one; number = s.number; is_rule = s.is_rule; left = s.left; has = s.has; before = elim s.before [ inl l ↦ inl l | inr b ↦ inr (b.0, (let x = b.1 in omega arith)) ] }

    here : Seen rules sets k (t + 1) one.left t (k + 1)
    here = record { place = k; one = one; number = refl; is_rule = is; left = refl; has = has; before = inr (refl, omega arith) }

    only : (n u r : ℕ) → Seen rules sets k (t + 1) n u r → Seen rules sets k t n u r ⊎ ((n ≡ one.left) × (u ≡ t) × (r ≡ k + 1))
    only n u r s = elim s.before [
      | inl l ↦ inl (record { place = s.place; one = s.one; number = s.number; is_rule = s.is_rule; left = s.left; has = s.has; before = inl l })
      | inr b ↦ elim (cases_eq u t) [
        | inl same ↦
            let read : slice_get rules k ≡ Some s.one = rw b.0 at s.is_rule in
            let rule_is : s.one ≡ one = cc (read, is) in
            inr (sym s.left ∙ ap (λ (x : Rule). x.left) rule_is, same, s.number ∙ ap (λ x. x + 1) b.0)
        | inr other ↦ inl (record { place = s.place; one = s.one; number = s.number; is_rule = s.is_rule; left = s.left; has = s.has; before = inr (b.0, (let x = b.1 in omega arith)) })
      ]
    ]

    later : (r : ℕ) → Seen rules sets k t one.left t r → r < k + 1
    later r s = elim s.before [ inl l ↦ (let x = l in let y = s.number in omega arith) | inr b ↦ absurd (let x = b.1 in omega arith) ]

    -- a free cell gets the rule
    pub seen_free : (new : List ℕ) → one.left * w + t < length cells → slice_index cells (one.left * w + t) ≡ 0 → new ≡ set cells (one.left * w + t) (k + 1)
        → Filled (Seen rules sets k (t + 1)) (cell_at w new) found
    seen_free new inside free new_is = fill_free (Seen rules sets k t) (Seen rules sets k (t + 1)) one.left t (k + 1) from_old here (omega arith) only later
        (cell_at w cells) found before (cell_at w new) (cell_inside w cells one.left t t_in ∙ free)
        (cell_inside w new one.left t t_in ∙ ap (λ l. slice_index l (one.left * w + t)) new_is ∙ get_or-set_same cells (one.left * w + t) (k + 1) 0 inside)
        (λ m u other. elim (cases_lt u w) [
          | inl u_in ↦
              cell_inside w new m u u_in ∙ ap (λ l. slice_index l (m * w + u)) new_is
              ∙ get_or-set_other cells (one.left * w + t) (m * w + u) (k + 1) 0 (λ same. (let both = same_place w m u one.left t u_in t_in same in other both.0 both.1))
              ∙ sym (cell_inside w cells m u u_in)
          | inr past ↦ cell_outside w new m u past ∙ sym (cell_outside w cells m u past)
        ])

    -- a taken one gives a conflict
    pub seen_clash : (new : Option Clash) → 0 < slice_index cells (one.left * w + t)
        → IsLesser found (record { nonterminal = one.left; rule = slice_index cells (one.left * w + t); other = k + 1; terminal = t }) new
        → Filled (Seen rules sets k (t + 1)) (cell_at w cells) new
    seen_clash new taken lesser =
        let own = cell_inside w cells one.left t t_in in
        fill_clash (Seen rules sets k t) (Seen rules sets k (t + 1)) one.left t (k + 1) from_old here (omega arith) only later (cell_at w cells) found before new
        (rw own taken) (λ b is_b. rw (is_b, ← own) at lesser) (λ is_none. rw (is_none, ← own) at lesser)

    -- whether it is free or taken
    pub seen_cell : (left : ℕ) (new : List ℕ) (after : Option Clash) → left ≡ one.left → left * w + t < length cells
        → (slice_index cells (left * w + t) ≡ 0 → (new ≡ set cells (left * w + t) (k + 1)) × (after ≡ found))
        → (0 < slice_index cells (left * w + t) → (new ≡ cells) × IsLesser found (record { nonterminal = left; rule = slice_index cells (left * w + t); other = k + 1; terminal = t }) after)
        → (length new ≡ length cells) × Filled (Seen rules sets k (t + 1)) (cell_at w new) after
    seen_cell left new after left_is inside free taken = go (rw left_is at inside) (rw left_is at free) (rw left_is at taken)
      where
        go : one.left * w + t < length cells
            → (slice_index cells (one.left * w + t) ≡ 0 → (new ≡ set cells (one.left * w + t) (k + 1)) × (after ≡ found))
            → (0 < slice_index cells (one.left * w + t) → (new ≡ cells) × IsLesser found (record { nonterminal = one.left; rule = slice_index cells (one.left * w + t); other = k + 1; terminal = t }) after)
            → (length new ≡ length cells) × Filled (Seen rules sets k (t + 1)) (cell_at w new) after
        go within is_free is_taken = elim (cases_eq (slice_index cells (one.left * w + t)) 0) [
          | inl zero_cell ↦
              let (new_is, same) = is_free zero_cell in
              (ap length new_is ∙ length-set cells (one.left * w + t) (k + 1), rw same (seen_free new within zero_cell new_is))
          | inr some ↦
              let (new_is, lesser) = is_taken (omega arith) in
              (ap length new_is, rw new_is (seen_clash after (omega arith) lesser))
        ]
