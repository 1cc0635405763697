-- Classes whose needs fit, and registers for the values of the first classes.
use Rattle.std.specs.Prelude.{◌≡◌, ℕ, ◌<◌, ◌≤◌, List, length, Some, slice_get}
use Rattle.beg_model.specs.Cover.{Instance}
use Rattle.beg_model.specs.declared.rules.CoverRules.{CoverRules}
use Rattle.beg_registers.specs.Assigned.{HasRegisters}
use Rattle.beg_model.specs.Items.{items}
use Rattle.beg_model.specs.Registers.{HasClass, IsNeed, Registers, IsLeastFree}

-- each class before this one has registers for its need
abbrev pub FitBelow : CoverRules → List Instance → ℕ → Type 0
FitBelow rules list m = (class have : ℕ) → class < m → HasRegisters rules class have
    → (need : ℕ) × IsNeed (items rules list) class need × (need ≤ have)

-- the values of the classes before this one have the registers of the rule
pub record AssignedBelow (rules : CoverRules) (list : List Instance) (registers : Registers) (m : ℕ) : Type 0 where
  pub size : length registers ≡ length list
  pub values : (p class have : ℕ) → class < m → HasClass (items rules list) p class → HasRegisters rules class have
      → (k : ℕ) × (slice_get registers p ≡ Some (Some k)) × IsLeastFree (items rules list) registers class p k × (k < have)
  pub others : (p k : ℕ) → slice_get registers p ≡ Some (Some k) → (class : ℕ) × HasClass (items rules list) p class
