-- Values and their registers: where a value is used, which values are held against it, and the register rule.
use Rattle.std.specs.Prelude.{◌≡◌, ℕ, zero, suc, ◌+◌, ◌<◌, ◌≤◌, ◌⊎◌, true, List, length, Option, Some, slice_get, Contains}
use Rattle.beg_model.specs.declared.rules.Holding.TheVariants.{Class, Operand}
use Rattle.beg_model.specs.Items.{Item}

-- the instance with number p holds a register of the class
pub record HasClass (items : List Item) (p class : ℕ) : Type 0 where
  pub item : Item
  pub is_item : slice_get items p ≡ Some item
  pub holds : item.holds ≡ Class class

-- it holds an operand text
pub record IsText (items : List Item) (p : ℕ) : Type 0 where
  pub item : Item
  pub is_item : slice_get items p ≡ Some item
  pub holds : item.holds ≡ Operand

-- its rule is EARLY
pub record IsEarly (items : List Item) (p : ℕ) : Type 0 where
  pub item : Item
  pub is_item : slice_get items p ≡ Some item
  pub early : item.early ≡ true

-- instance w is an operand of instance p
pub record IsOperand (items : List Item) (w p : ℕ) : Type 0 where
  pub item : Item
  pub is_item : slice_get items p ≡ Some item
  pub operand : Contains item.operands w

-- w is used at p: p has it as operand, or a text has it as operand that is used at p
pub data UsedAt (items : List Item) : ℕ → ℕ → Type 0 where
  directly : (w p : ℕ) → IsOperand items w p → (IsText items p → ⊥) → UsedAt items w p
  by_text : (w t p : ℕ) → IsOperand items w t → IsText items t → UsedAt items t p → UsedAt items w p

-- the value w is held against the one that is defined at p
pub record Held (items : List Item) (w p : ℕ) : Type 0 where
  pub before : w < p
  pub use_place : ℕ
  pub used : UsedAt items w use_place
  pub after : (p < use_place) ⊎ ((use_place ≡ p) × IsEarly items p)

-- w is a value of the class that is held against p
abbrev pub HeldOf : List Item → ℕ → ℕ → ℕ → Type 0
HeldOf items class p w = HasClass items w class × Held items w p

-- n of the numbers below m have the property
pub data CountBelow (P : ℕ → Type 0) : ℕ → ℕ → Type 0 where
  nothing : CountBelow P zero zero
  one_more : (m n : ℕ) → CountBelow P m n → P m → CountBelow P (suc m) (suc n)
  as_many : (m n : ℕ) → CountBelow P m n → (P m → ⊥) → CountBelow P (suc m) n

-- the greatest, over values of the class, of one plus the number of values of the class held against it
pub record IsNeed (items : List Item) (class n : ℕ) : Type 0 where
  pub enough : (p m : ℕ) → HasClass items p class → CountBelow (HeldOf items class p) p m → m + 1 ≤ n
  pub reached : ((n ≡ 0) × ((p : ℕ) → HasClass items p class → ⊥))
      ⊎ ((p : ℕ) × (m : ℕ) × HasClass items p class × CountBelow (HeldOf items class p) p m × (n ≡ m + 1))

-- the register of each instance that holds one
abbrev pub Registers : Type 0
Registers = List (Option ℕ)

-- register k is the least one that no value of the class held against p has
pub record IsLeastFree (items : List Item) (registers : Registers) (class p k : ℕ) : Type 0 where
  pub free : (w : ℕ) → HeldOf items class p w → slice_get registers w ≡ Some (Some k) → ⊥
  pub least : (j : ℕ) → j < k → (w : ℕ) × HeldOf items class p w × (slice_get registers w ≡ Some (Some j))

-- each value has the least register that no value of its class held against it has; nothing else has one
pub record Regs (items : List Item) (registers : Registers) : Type 0 where
  pub size : length registers ≡ length items
  pub value : (p class : ℕ) → HasClass items p class
      → (k : ℕ) × (slice_get registers p ≡ Some (Some k)) × IsLeastFree items registers class p k
  pub other : (p k : ℕ) → slice_get registers p ≡ Some (Some k) → (class : ℕ) × HasClass items p class

-- nothing placed after a value's definition and before its use writes its register, nor does the one that
-- uses it where that rule is EARLY
abbrev pub Kept : List Item → Registers → Type 0
Kept items registers = (class v p k u : ℕ) → HasClass items v class → HasClass items p class → UsedAt items v u
    → v < p → (p < u) ⊎ ((p ≡ u) × IsEarly items p)
    → slice_get registers v ≡ Some (Some k) → slice_get registers p ≡ Some (Some k) → ⊥
