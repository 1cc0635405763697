-- What `assign` answers.
use Rattle.std.specs.Prelude.{◌≡◌, ℕ, ◌<◌, ◌≤◌, List, length, map, Some, slice_get}
use Rattle.beg_model.specs.Cover.{Instance}
use Rattle.beg_model.specs.declared.rules.CoverRules.{CoverRules}
use Rattle.beg_model.specs.Items.{items}
use Rattle.beg_model.specs.Registers.{HasClass, IsNeed, Registers, Regs, Kept}

-- the class has so many registers
abbrev pub HasRegisters : CoverRules → ℕ → ℕ → Type 0
HasRegisters rules class have = slice_get (map (λ names. length names.items) rules.classes.items) class ≡ Some have

-- registers for the list: the rule's, which are kept; each is one of its class, whose need they suffice for
pub record AreRegisters (rules : CoverRules) (list : List Instance) (registers : Registers) : Type 0 where
  pub regs : Regs (items rules list) registers
  pub kept : Kept (items rules list) registers
  pub within : (p class k have : ℕ) → HasClass (items rules list) p class → slice_get registers p ≡ Some (Some k) → HasRegisters rules class have
      → k < have
  pub fit : (class need have : ℕ) → IsNeed (items rules list) class need → HasRegisters rules class have → need ≤ have

-- the first class whose need exceeds its registers, with both numbers
pub record IsUsedUp (rules : CoverRules) (list : List Instance) (class need have : ℕ) : Type 0 where
  pub need_is : IsNeed (items rules list) class need
  pub have_is : HasRegisters rules class have
  pub exceeds : have < need
  pub first : (other n h : ℕ) → other < class → IsNeed (items rules list) other n → HasRegisters rules other h → n ≤ h
