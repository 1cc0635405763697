-- One pass gives the register rule: each register remembers up to where its last value is used.
use Rattle.std.proofs.Common.{◌≡◌, ℕ, ◌+◌, ◌<◌, ◌≤◌, ◌⊎◌, List, Some, arith, inl, inr, sym, subst, ◌∙◌}
use Rattle.std.specs.Prelude.{slice_get}
use Rattle.beg_model.specs.Items.{Item}
use Rattle.beg_model.specs.Registers.{HasClass, IsEarly, UsedAt, Registers, IsLeastFree}
use Rattle.beg_registers.proofs.RegisterLaws.{Taken, some_number, is_same}
use Rattle.beg_model.proofs.Search.{at_most_or_more}

-- a register whose last value is used at place `until - 1`, or that has none where `until` is 0, is held at p
abbrev pub IsBusy : List Item → ℕ → ℕ → Type 0
IsBusy items until p = (p + 1 < until) ⊎ ((until ≡ p + 1) × IsEarly items p)

-- each register remembers where its last value is used
pub record Owners (items : List Item) (class : ℕ) (uses until : ℕ → ℕ) (rs : Registers) (p : ℕ) : Type 0 where
  pub kept : (w k : ℕ) → w < p → HasClass items w class → slice_get rs w ≡ Some (Some k) → uses w + 1 ≤ until k
  pub owner : (k : ℕ) → (until k ≡ 0)
      ⊎ ((w : ℕ) × (w < p) × HasClass items w class × (slice_get rs w ≡ Some (Some k)) × (until k ≡ uses w + 1))

module _ (items : List Item) (class : ℕ) (uses : ℕ → ℕ)
    (used : (w : ℕ) → HasClass items w class → UsedAt items w (uses w) × (w < uses w))
    (once : (w u : ℕ) → HasClass items w class → UsedAt items w u → u ≡ uses w) where
  after_use : (p u t : ℕ) → t ≡ u + 1 → IsBusy items t p → (p < u) ⊎ ((u ≡ p) × IsEarly items p)
  after_use p u t is (inl less) = inl (omega (arith, is, less))
  after_use p u t is (inr (same, early)) = inr (omega (arith, is, same), early)

  not_zero : (t p : ℕ) → t ≡ 0 → IsBusy items t p → ⊥
  not_zero t p none (inl less) = omega (arith, none, less)
  not_zero t p none (inr (same, early)) = omega (arith, none, same)

  pub taken_of_busy : (until : ℕ → ℕ) (rs : Registers) (p k : ℕ) → Owners items class uses until rs p → IsBusy items (until k) p → Taken items rs class p k
  taken_of_busy until rs p k o busy = elim (o.owner k) [
    | inl none ↦ absurd (not_zero (until k) p none busy)
    | inr (w, before, value, has, is) ↦ (
      w,
      (
        value,
        record {
          before = before;
          use_place = uses w;
          used = (used w value).0;
          after = after_use p (uses w) (until k) is busy;
        },
      ),
      has,
    )
  ]

  busy_after : (p u t : ℕ) → u + 1 ≤ t → (p < u) ⊎ ((u ≡ p) × IsEarly items p) → IsBusy items t p
  busy_after p u t le (inl less) = inl (omega (arith, le, less))
  busy_after p u t le (inr (same, early)) = elim (at_most_or_more t (p + 1)) [
    | inl at ↦ inr (omega (arith, at, le, same), early)
    | inr over ↦ inl over
  ]

  pub busy_of_taken : (until : ℕ → ℕ) (rs : Registers) (p k : ℕ) → Owners items class uses until rs p → Taken items rs class p k → IsBusy items (until k) p
  busy_of_taken until rs p k o (w, (value, held), has) =
      let le = o.kept w k held.before value has in
      let same = once w held.use_place value held.used in
      busy_after p (uses w) (until k) le (subst (λ z. (p < z) ⊎ ((z ≡ p) × IsEarly items p)) same held.after)

  -- the first register that isn't busy is the least free one
  pub least_of_busy : (until : ℕ → ℕ) (rs : Registers) (p k : ℕ) → Owners items class uses until rs p → (IsBusy items (until k) p → ⊥)
      → ((j : ℕ) → j < k → IsBusy items (until j) p) → IsLeastFree items rs class p k
  least_of_busy until rs p k o idle busy = record {
    free = λ w h is. idle (busy_of_taken until rs p k o (w, h, is));
    least = λ j lt. taken_of_busy until rs p j o (busy j lt);
  }

  idle_at_most : (t p : ℕ) → (IsBusy items t p → ⊥) → t ≤ p + 1
  idle_at_most t p idle = elim (at_most_or_more t (p + 1)) [ inl le ↦ le | inr more ↦ absurd (idle (inl more)) ]

  -- one more value
  pub one_value_more : (until next : ℕ → ℕ) (rs more : Registers) (p k : ℕ) → Owners items class uses until rs p → HasClass items p class
      → (IsBusy items (until k) p → ⊥) → next k ≡ uses p + 1 → ((j : ℕ) → (j ≡ k) ⊎ (next j ≡ until j))
      → slice_get more p ≡ Some (Some k) → ((w : ℕ) → w < p → slice_get more w ≡ slice_get rs w)
      → Owners items class uses next more (p + 1)
  one_value_more until next rs more p k o value idle set others has front = record {
    kept = λ w j lt v is. elim (at_most_or_more p w) [
      | inl at ↦ (let same : w ≡ p = omega (arith, at, lt) in
          let e : j ≡ k = some_number j k (is_same (subst (λ z. slice_get more z ≡ Some (Some j)) same is) has) in
          subst (λ z. uses w + 1 ≤ next z) (sym e) (subst (λ z. uses z + 1 ≤ next k) (sym same) (omega (arith, set))))
      | inr before ↦ (let le = o.kept w j before v (sym (front w before) ∙ is) in
          elim (others j) [
            | inl same ↦ (let low = idle_at_most (until k) p idle in
                let (u, later) = used p value in
                let low_j : uses w + 1 ≤ until k = subst (λ z. uses w + 1 ≤ until z) same le in
                subst (λ z. uses w + 1 ≤ next z) (sym same) (omega (arith, set, low, later, low_j)))
            | inr other ↦ omega (arith, other, le)
          ])
    ];
    owner = λ j. elim (others j) [
      | inl same ↦ inr (
        p,
        omega arith,
        value,
        subst (λ z. slice_get more p ≡ Some (Some z)) (sym same) has,
        subst (λ z. next z ≡ uses p + 1) (sym same) set,
      )
      | inr other ↦ elim (o.owner j) [
        | inl none ↦ inl (other ∙ none)
        | inr (w, before, v, is, until_is) ↦ inr (w, omega (arith, before), v, front w before ∙ is, other ∙ until_is)
      ]
    ];
  }

  -- a place that defines no value of the class
  pub one_other_more : (until : ℕ → ℕ) (rs more : Registers) (p : ℕ) → Owners items class uses until rs p → (HasClass items p class → ⊥)
      → ((w : ℕ) → w < p → slice_get more w ≡ slice_get rs w) → Owners items class uses until more (p + 1)
  one_other_more until rs more p o none front = record {
    kept = λ w j lt v is. elim (at_most_or_more p w) [
      | inl at ↦ absurd (let same : w ≡ p = omega (arith, at, lt) in none (subst (λ z. HasClass items z class) same v))
      | inr before ↦ o.kept w j before v (sym (front w before) ∙ is)
    ];
    owner = λ j. elim (o.owner j) [
      | inl free ↦ inl free
      | inr (w, before, v, is, until_is) ↦ inr (w, omega (arith, before), v, front w before ∙ is, until_is)
    ];
  }
