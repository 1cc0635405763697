-- Operands are marked with their place of use, from the last item down.
use Rattle.std.proofs.Common.{◌≡◌, ℕ, zero, suc, ◌+◌, ◌<◌, ◌≤◌, ◌⊎◌, List, [], ◌∷◌, length, get_or, set, Option, Some, arith, inl, inr, refl, sym, subst, ap, ◌∙◌}
use Rattle.std.specs.Prelude.{slice_get, Contains}
use Rattle.std.proofs.lemmas.List.{get_or-set_same, get_or-set_other, length-set}
use Rattle.beg_model.specs.declared.rules.Holding.{Holding}
use Rattle.beg_model.specs.declared.rules.Holding.TheVariants.{Class, Operand, Nothing}
use Rattle.beg_model.specs.Items.{Item}
use Rattle.beg_model.specs.Registers.{IsOperand, IsText, UsedAt, directly, by_text}
use Rattle.beg_registers.specs.within.Uses.{user_of}

any_default : (xs : List ℕ) (i d e : ℕ) → i < length xs → get_or xs i d ≡ get_or xs i e
any_default [] i d e lt = absurd (omega (arith, lt))
any_default (x ∷ xs) zero d e lt = refl
any_default (x ∷ xs) (suc i) d e lt = any_default xs i d e (omega (arith, lt))

pub in_list : (xs : List ℕ) (k : ℕ) → k < length xs → Contains xs (get_or xs k 0)
in_list xs k lt = (k, lt, any_default xs k (get_or xs k 0) 0 lt)

pub place_of : (xs : List ℕ) (w : ℕ) → Contains xs w → (k : ℕ) × (k < length xs) × (get_or xs k 0 ≡ w)
place_of xs w (k, lt, is) = (k, lt, any_default xs k 0 w lt ∙ is)

le_or_more : (k d : ℕ) → (k ≤ d) ⊎ (d < k)
le_or_more k d = grind arith

same_or_other : (x y : ℕ) → (x ≡ y) ⊎ (x ≡ y → ⊥)
same_or_other x y = elim (le_or_more x y) [
  | inl a ↦ elim (le_or_more y x) [ inl b ↦ inl (omega (arith, a, b)) | inr b ↦ inr (λ e. omega (arith, b, e)) ]
  | inr a ↦ inr (λ e. omega (arith, a, e))
]

last_or_before : (j k : ℕ) → j < k + 1 → (j ≡ k) ⊎ (j < k)
last_or_before j k lt = grind arith

pub mark_more : (ops uses first : List ℕ) (place k : ℕ) → length uses ≡ length first → get_or ops k 0 < length uses
    → ((j : ℕ) → j < k → get_or uses (get_or ops j 0) 0 ≡ place)
    → ((w : ℕ) → ((j : ℕ) → j < k → get_or ops j 0 ≡ w → ⊥) → get_or uses w 0 ≡ get_or first w 0)
    → (length (set uses (get_or ops k 0) place) ≡ length first)
    × ((j : ℕ) → j < k + 1 → get_or (set uses (get_or ops k 0) place) (get_or ops j 0) 0 ≡ place)
    × ((w : ℕ) → ((j : ℕ) → j < k + 1 → get_or ops j 0 ≡ w → ⊥) → get_or (set uses (get_or ops k 0) place) w 0 ≡ get_or first w 0)
mark_more ops uses first place k size lt marked others = (
  length-set uses (get_or ops k 0) place ∙ size,
  λ j near. elim (same_or_other (get_or ops j 0) (get_or ops k 0)) [
    | inl same ↦ subst (λ z. get_or (set uses (get_or ops k 0) place) z 0 ≡ place) (sym same) (get_or-set_same uses (get_or ops k 0) place 0 lt)
    | inr other ↦ get_or-set_other uses (get_or ops k 0) (get_or ops j 0) place 0 other ∙ elim (last_or_before j k near) [
      | inl at ↦ absurd (other (ap (λ z. get_or ops z 0) at))
      | inr before ↦ marked j before
    ]
  ],
  λ w none. get_or-set_other uses (get_or ops k 0) w place 0 (λ e. none k (omega arith) (sym e)) ∙ others w (λ j near. none j (omega (arith, near))),
)

one_of : {o : Option Item} {a b : Item} → o ≡ Some a → o ≡ Some b → a ≡ b
one_of e f = cc

is_text : (h : Holding) → (h ≡ Operand) ⊎ (h ≡ Operand → ⊥)
is_text (Class c) = inr (λ e. cc)
is_text Operand = inl refl
is_text Nothing = inr (λ e. cc)

text_user : (item : Item) (above own : ℕ) → item.holds ≡ Operand → user_of item above own ≡ above
text_user item above own e = rw e refl

other_holds : (h : Holding) (above own : ℕ) → (h ≡ Operand → ⊥) → (elim h [ Operand ↦ above | Class c ↦ own | Nothing ↦ own ]) ≡ own
other_holds (Class c) above own none = refl
other_holds Operand above own none = absurd (none refl)
other_holds Nothing above own none = refl

other_user : (item : Item) (above own : ℕ) → (item.holds ≡ Operand → ⊥) → user_of item above own ≡ own
other_user item above own none = other_holds item.holds above own none

pub uses_more : (items : List Item) (uses next : List ℕ) (i place : ℕ) (item : Item)
    → ((w p : ℕ) → IsOperand items w p → w < p) → ((w p q : ℕ) → IsOperand items w p → IsOperand items w q → p ≡ q)
    → ((p : ℕ) → IsText items p → (q : ℕ) × IsOperand items p q)
    → slice_get items i ≡ Some item → place ≡ user_of item (get_or uses i 0) i
    → ((w : ℕ) → Contains item.operands w → get_or next w 0 ≡ place)
    → ((w : ℕ) → (Contains item.operands w → ⊥) → get_or next w 0 ≡ get_or uses w 0)
    → ((w p : ℕ) → IsOperand items w p → i + 1 ≤ p → UsedAt items w (get_or uses w 0))
    → (w p : ℕ) → IsOperand items w p → i ≤ p → UsedAt items w (get_or next w 0)
uses_more items uses next i place item below one texts is place_is marked others so_far w p operand ge = elim (same_or_other p i) [
  | inl at ↦ (let own : IsOperand items w i = subst (λ z. IsOperand items w z) at operand in
      let has = subst (λ z. Contains z.operands w) (one_of own.is_item is) own.operand in
      rw (marked w has) (rw place_is (elim (is_text item.holds) [
        | inl text ↦ (let t : IsText items i = record { item = item; is_item = is; holds = text } in
            let (q, above) = texts i t in
            let later = below i q above in
            rw (text_user item (get_or uses i 0) i text) (by_text w i (get_or uses i 0) own t (so_far i q above (omega (arith, later)))))
        | inr none ↦ rw (other_user item (get_or uses i 0) i none) (directly w i own
            (λ t. none (subst (λ z. z.holds ≡ Operand) (one_of t.is_item is) t.holds)))
      ])))
  | inr past ↦ rw (others w (λ has. past (one w p i operand (record { item = item; is_item = is; operand = has }))))
      (so_far w p operand (omega (arith, ge, past)))
]
