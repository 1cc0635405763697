-- Where an operand is used.
use Rattle.std.specs.Prelude.{◌≡◌, ℕ, ◌+◌, ◌<◌, List, length}
use Rattle.beg_model.specs.Registers.{HasClass, IsText, IsOperand}
use Rattle.beg_model.specs.Items.{Item}
use Rattle.beg_model.specs.declared.rules.Holding.TheVariants.{Class, Operand, Nothing}

-- where an operand of the item is used: where the item itself is, if that holds a text, else at the item
abbrev pub user_of : Item → ℕ → ℕ → ℕ
user_of item above own = elim item.holds [ Operand ↦ above | Class c ↦ own | Nothing ↦ own ]

-- each instance but the last is an operand of exactly one later one; the last holds neither text nor register
pub record IsTree (items : List Item) : Type 0 where
  pub parent : (w : ℕ) → w + 1 < length items → (p : ℕ) × (p < length items) × IsOperand items w p
  pub one : (w p q : ℕ) → IsOperand items w p → IsOperand items w q → p ≡ q
  pub below : (w p : ℕ) → IsOperand items w p → w < p
  pub root : (p : ℕ) → p + 1 ≡ length items → (IsText items p → ⊥) × ((class : ℕ) → HasClass items p class → ⊥)
