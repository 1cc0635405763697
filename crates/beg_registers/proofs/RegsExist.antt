-- The register rule gives each value a register.
use Rattle.std.proofs.Common.{◌≡◌, ℕ, zero, suc, ◌<◌, ◌≤◌, ◌⊎◌, List, [], ◌∷◌, ◌++◌, length, Option, Some, None, arith, inl, inr, refl, sym, subst, ◌∙◌, length-append}
use Rattle.std.specs.Prelude.{slice_get}
use Rattle.std.proofs.lemmas.Option.{slice_get_within}
use Rattle.beg_model.specs.declared.rules.Holding.{Holding}
use Rattle.beg_model.specs.declared.rules.Holding.TheVariants.{Class, Operand, Nothing}
use Rattle.beg_model.specs.Items.{Item}
use Rattle.beg_model.specs.Registers.{HasClass, HeldOf, Registers, IsLeastFree, Regs}
use Rattle.beg_model.proofs.Search.{Tested, last_or_before}
use Rattle.beg_registers.proofs.RegisterLaws.{free_register}

get_front : {X : Type 0} (xs ys : List X) (i : ℕ) → i < length xs → slice_get (xs ++ ys) i ≡ slice_get xs i
get_front [] ys i lt = absurd (omega (arith, lt))
get_front (x ∷ xs) ys zero lt = refl
get_front (x ∷ xs) ys (suc i) lt = get_front xs ys i (omega (arith, lt))

get_last : {X : Type 0} (xs : List X) (y : X) → slice_get (xs ++ y ∷ []) (length xs) ≡ Some y
get_last [] y = refl
get_last (x ∷ xs) y = get_last xs y

get_either : {X : Type 0} (xs : List X) (y z : X) (i : ℕ) → slice_get (xs ++ y ∷ []) i ≡ Some z
    → ((i < length xs) × (slice_get xs i ≡ Some z)) ⊎ ((i ≡ length xs) × (Some y ≡ Some z))
get_either [] y z zero h = inr (refl, h)
get_either [] y z (suc i) h = cc
get_either (x ∷ xs) y z zero h = inl (omega arith, h)
get_either (x ∷ xs) y z (suc i) h = elim (get_either xs y z i h) [
  | inl (lt, is) ↦ inl (omega (arith, lt), is)
  | inr (same, is) ↦ inr (omega (arith, same), is)
]

pub item_at : (items : List Item) (p : ℕ) → p < length items → (item : Item) × (slice_get items p ≡ Some item)
item_at [] p lt = absurd (omega (arith, lt))
item_at (item ∷ items) zero lt = (item, refl)
item_at (item ∷ items) (suc p) lt = item_at items p (omega (arith, lt))

pub one_item : {o : Option Item} {a b : Item} → o ≡ Some a → o ≡ Some b → a ≡ b
one_item h k = cc

is_class : (h : Holding) → ((class : ℕ) × (h ≡ Class class)) ⊎ ((class : ℕ) → h ≡ Class class → ⊥)
is_class (Class class) = inl (class, refl)
is_class Operand = inr (λ class e. cc)
is_class Nothing = inr (λ class e. cc)

pub class_at : (items : List Item) (p : ℕ) → p < length items
    → ((class : ℕ) × HasClass items p class) ⊎ ((class : ℕ) → HasClass items p class → ⊥)
class_at items p lt =
    let (item, is) = item_at items p lt in
    elim (is_class item.holds) [
      | inl (class, holds) ↦ inl (class, record { item = item; is_item = is; holds = holds })
      | inr none ↦ inr (λ class h. (let same : item ≡ h.item = one_item is h.is_item in
          none class (subst (λ z. z.holds ≡ Class class) (sym same) h.holds)))
    ]

pub one_class : {items : List Item} {p a b : ℕ} → HasClass items p a → HasClass items p b → a ≡ b
one_class {a = a} {b = b} h k =
    let same : k.item ≡ h.item = one_item k.is_item h.is_item in
    let other : h.item.holds ≡ Class b = subst (λ z. z.holds ≡ Class b) same k.holds in
    let e : Class a ≡ Class b = sym h.holds ∙ other in cc

abbrev no_register : Option ℕ
no_register = None

-- the rule up to a place
record RegsTo (items : List Item) (m : ℕ) (rs : Registers) : Type 0 where
  size : length rs ≡ m
  value : (p class : ℕ) → p < m → HasClass items p class
      → (k : ℕ) × (slice_get rs p ≡ Some (Some k)) × IsLeastFree items rs class p k
  other : (p k : ℕ) → slice_get rs p ≡ Some (Some k) → (class : ℕ) × HasClass items p class

-- a free register stays so with more registers behind
free_in_front : (items : List Item) (rs more : Registers) (class p k : ℕ) → p ≤ length rs → IsLeastFree items rs class p k
    → IsLeastFree items (rs ++ more) class p k
free_in_front items rs more class p k within least = record {
  free = λ w h is. (let before = h.1.before in
      least.free w h (sym (get_front rs more w (omega (arith, before, within))) ∙ is));
  least = λ j lt. (let (w, h, is) = least.least j lt in let before = h.1.before in
      (w, h, get_front rs more w (omega (arith, before, within)) ∙ is));
}

module _ (items : List Item) (held : (class p w : ℕ) → Tested (HeldOf items class p w)) where
  add_value : (m : ℕ) (rs : Registers) (class : ℕ) → HasClass items m class → RegsTo items m rs
      → (more : Registers) × RegsTo items (suc m) more
  add_value m rs class has to =
      let (k, least) = free_register items held rs class m in
      let size = to.size in (
        rs ++ Some k ∷ [],
        record {
          size = (let e = length-append rs (Some k ∷ []) in omega (arith, e, size));
          value = λ p c lt h. elim (last_or_before p m lt) [
            | inl same ↦ (let c_is : class ≡ c = one_class has (subst (λ z. HasClass items z c) (sym same) h) in (
              k,
              subst (λ z. slice_get (rs ++ Some k ∷ []) z ≡ Some (Some k)) (size ∙ same) (get_last rs (Some k)),
              subst (λ z. IsLeastFree items (rs ++ Some k ∷ []) c z k) same
                  (subst (λ z. IsLeastFree items (rs ++ Some k ∷ []) z m k) c_is
                  (free_in_front items rs (Some k ∷ []) class m k (omega (arith, size)) least)),
            ))
            | inr before ↦ (let (j, is, free) = to.value p c before h in (
              j,
              get_front rs (Some k ∷ []) p (omega (arith, size, before)) ∙ is,
              free_in_front items rs (Some k ∷ []) c p j (omega (arith, size, before)) free,
            ))
          ];
          other = λ p j h. elim (get_either rs (Some k) (Some j) p h) [
            | inl (lt, is) ↦ to.other p j is
            | inr (same, is) ↦ (class, subst (λ z. HasClass items z class) (sym (same ∙ size)) has)
          ];
        },
      )

  add_none : (m : ℕ) (rs : Registers) → ((class : ℕ) → HasClass items m class → ⊥) → RegsTo items m rs
      → (more : Registers) × RegsTo items (suc m) more
  add_none m rs none to =
      let size = to.size in (
        rs ++ no_register ∷ [],
        record {
          size = (let e = length-append rs (no_register ∷ []) in omega (arith, e, size));
          value = λ p c lt h. elim (last_or_before p m lt) [
            | inl same ↦ absurd (none c (subst (λ z. HasClass items z c) (sym same) h))
            | inr before ↦ (let (j, is, free) = to.value p c before h in (
              j,
              get_front rs (no_register ∷ []) p (omega (arith, size, before)) ∙ is,
              free_in_front items rs (no_register ∷ []) c p j (omega (arith, size, before)) free,
            ))
          ];
          other = λ p j h. elim (get_either rs no_register (Some j) p h) [
            | inl (lt, is) ↦ to.other p j is
            | inr (same, is) ↦ (let e : Some no_register ≡ Some (Some j) = is in cc)
          ];
        },
      )

  regs_to : (m : ℕ) → m ≤ length items → (rs : Registers) × RegsTo items m rs
  regs_to zero le = ([], record { size = refl; value = λ p c lt h. absurd (omega (arith, lt)); other = λ p k h. cc })
  regs_to (suc m) le =
      let (rs, to) = regs_to m (omega (arith, le)) in
      elim (class_at items m (omega (arith, le))) [
        | inl (class, has) ↦ add_value m rs class has to
        | inr none ↦ add_none m rs none to
      ]

  pub regs_exist : (rs : Registers) × Regs items rs
  regs_exist =
      let (rs, to) = regs_to (length items) (omega arith) in (
        rs,
        record {
          size = to.size;
          value = λ p class h. to.value p class (slice_get_within items p h.item h.is_item) h;
          other = to.other;
        },
      )
