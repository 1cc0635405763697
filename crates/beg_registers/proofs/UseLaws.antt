-- In a tree of instances each value has one place of use, and so the register rule has its laws.
use Rattle.std.proofs.Common.{◌≡◌, ℕ, zero, suc, ◌+◌, ◌<◌, ◌≤◌, ◌⊎◌, Bool, true, false, List, length, Some, arith, inl, inr, refl, sym, subst, ap, ◌∙◌}
use Rattle.std.specs.Prelude.{slice_get}
use Rattle.std.proofs.lemmas.Option.{slice_get_within}
use Rattle.beg_model.specs.declared.rules.Holding.{Holding}
use Rattle.beg_model.specs.declared.rules.Holding.TheVariants.{Class, Operand, Nothing}
use Rattle.beg_model.specs.Items.{Item}
use Rattle.beg_model.specs.Registers.{HasClass, IsText, IsEarly, UsedAt, directly, by_text, HeldOf, Registers, Regs, Kept, IsNeed}
pub use Rattle.beg_registers.specs.within.Uses.{IsTree}
use Rattle.beg_model.proofs.Search.{Tested, both, same_or_other, at_most_or_more}
use Rattle.beg_registers.proofs.RegsExist.{item_at, one_item, regs_exist}
use Rattle.beg_registers.proofs.RegisterLaws.{kept, within_need}

is_text : (h : Holding) → Tested (h ≡ Operand)
is_text (Class class) = inr (λ e. cc)
is_text Operand = inl refl
is_text Nothing = inr (λ e. cc)

is_true : (b : Bool) → Tested (b ≡ true)
is_true true = inl refl
is_true false = inr (λ e. cc)

class_number : (a b : ℕ) → Class a ≡ Class b → a ≡ b
class_number a b e = cc

holds_class : (h : Holding) (class : ℕ) → Tested (h ≡ Class class)
holds_class (Class c) class = elim (same_or_other c class) [
  | inl same ↦ inl (ap Class same)
  | inr other ↦ inr (λ e. other (class_number c class e))
]
holds_class Operand class = inr (λ e. cc)
holds_class Nothing class = inr (λ e. cc)

number_of : (j k : ℕ) → Some (Some j) ≡ Some (Some k) → j ≡ k
number_of j k e = cc

tested_text : (items : List Item) (p : ℕ) → p < length items → Tested (IsText items p)
tested_text items p lt =
    let (item, is) = item_at items p lt in
    elim (is_text item.holds) [
      | inl holds ↦ inl (record { item = item; is_item = is; holds = holds })
      | inr none ↦ inr (λ t. none (subst (λ z. z.holds ≡ Operand) (sym (one_item is t.is_item)) t.holds))
    ]

tested_early : (items : List Item) (p : ℕ) → Tested (IsEarly items p)
tested_early items p = elim (at_most_or_more (length items) p) [
  | inl past ↦ inr (λ e. (let lt = slice_get_within items p e.item e.is_item in omega (arith, past, lt)))
  | inr lt ↦ (let (item, is) = item_at items p lt in elim (is_true item.early) [
    | inl early ↦ inl (record { item = item; is_item = is; early = early })
    | inr none ↦ inr (λ t. none (subst (λ z. z.early ≡ true) (sym (one_item is t.is_item)) t.early))
  ])
]

module _ (items : List Item) (t : IsTree items) where
  pub one_use : {w u : ℕ} (v : ℕ) → UsedAt items w u → UsedAt items w v → u ≡ v
  one_use v (directly w p a none) (directly _ q b none2) = t.one w p q a b
  one_use v (directly w p a none) (by_text _ s q b text more) =
      absurd (none (subst (λ z. IsText items z) (t.one w s p b a) text))
  one_use v (by_text w s p a text more) (directly _ q b none) =
      absurd (none (subst (λ z. IsText items z) (t.one w s q a b) text))
  one_use v (by_text w s p a text more) (by_text _ r q b text2 more2) =
      one_use q more (subst (λ z. UsedAt items z q) (t.one w r s b a) more2)

  use_up : (fuel w : ℕ) → w + 1 < length items → length items ≤ fuel + w → (u : ℕ) × UsedAt items w u × (w < u)
  use_up zero w lt enough = absurd (omega (arith, lt, enough))
  use_up (suc fuel) w lt enough =
      let (p, within, operand) = t.parent w lt in
      let before = t.below w p operand in
      elim (tested_text items p within) [
        | inr none ↦ (p, directly w p operand none, before)
        | inl text ↦ elim (at_most_or_more (length items) (p + 1)) [
          | inl last ↦ absurd ((t.root p (omega (arith, last, within))).0 text)
          | inr more ↦ (let (u, used, after) = use_up fuel p more (omega (arith, enough, before)) in
              (u, by_text w p u operand text used, omega (arith, before, after)))
        ]
      ]

  pub use_exists : (w class : ℕ) → HasClass items w class → (u : ℕ) × UsedAt items w u × (w < u)
  use_exists w class h =
      let lt = slice_get_within items w h.item h.is_item in
      elim (at_most_or_more (length items) (w + 1)) [
        | inl last ↦ absurd ((t.root w (omega (arith, last, lt))).1 class h)
        | inr more ↦ use_up (length items) w more (omega arith)
      ]

  class_tested : (class w : ℕ) → Tested (HasClass items w class)
  class_tested class w = elim (at_most_or_more (length items) w) [
    | inl past ↦ inr (λ h. (let lt = slice_get_within items w h.item h.is_item in omega (arith, past, lt)))
    | inr lt ↦ (let (item, is) = item_at items w lt in elim (holds_class item.holds class) [
      | inl holds ↦ inl (record { item = item; is_item = is; holds = holds })
      | inr none ↦ inr (λ h. none (subst (λ z. z.holds ≡ Class class) (sym (one_item is h.is_item)) h.holds))
    ])
  ]

  not_after : (u p : ℕ) → u ≤ p → ((u ≡ p) × IsEarly items p → ⊥) → (p < u) ⊎ ((u ≡ p) × IsEarly items p) → ⊥
  not_after u p le none (inl later) = omega (arith, le, later)
  not_after u p le none (inr both_are) = none both_are

  pub held_tested : (class p w : ℕ) → Tested (HeldOf items class p w)
  held_tested class p w = elim (class_tested class w) [
    | inr none ↦ inr (λ h. none h.0)
    | inl value ↦ (let (u, used, after) = use_exists w class value in
        elim (at_most_or_more p w) [
          | inl not_before ↦ inr (λ h. (let lt = h.1.before in omega (arith, not_before, lt)))
          | inr before ↦ elim (at_most_or_more u p) [
            | inr later ↦ inl (value, record { before = before; use_place = u; used = used; after = inl later })
            | inl up_to ↦ elim (both (same_or_other u p) (tested_early items p)) [
              | inl both_are ↦ inl (value, record { before = before; use_place = u; used = used; after = inr both_are })
              | inr not_both ↦ inr (λ h. (let same = one_use u h.1.used used in
                  not_after u p up_to not_both (subst (λ z. (p < z) ⊎ ((z ≡ p) × IsEarly items p)) same h.1.after)))
            ]
          ]
        ])
  ]

  -- the laws of the register rule
  pub registers_exist : (rs : Registers) × Regs items rs
  registers_exist = regs_exist items held_tested

  pub registers_fit : (rs : Registers) → Regs items rs → (class p k need : ℕ) → IsNeed items class need → HasClass items p class
      → slice_get rs p ≡ Some (Some k) → k < need
  registers_fit rs regs class p k need is value has =
      let (j, is_j, least) = regs.value p class value in
      let less = within_need items held_tested rs class p j need is value least in
      let same = number_of j k (sym is_j ∙ has) in
      omega (arith, less, same)

  pub registers_kept : (rs : Registers) → Regs items rs → Kept items rs
  registers_kept rs regs = kept items rs regs
