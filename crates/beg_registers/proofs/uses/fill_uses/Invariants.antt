-- The operands of the items from here on have their places.
use Rattle.beg_model.specs.Items.{items}
use Rattle.std.proofs.Common.{◌≡◌, ℕ, ◌≤◌, length, get_or}
use Rattle.beg_model.specs.Registers.{IsOperand, UsedAt}
use Rattle.beg_registers.proofs.uses.fill_uses.Given as goal

abbrev pub invariant-loop-i : goal.invariant-loop-i
invariant-loop-i l = (length l.uses ≡ length l.initial.uses)
    × ((w p : ℕ) → IsOperand (items l.rules l.list) w p → l.i ≤ p → UsedAt (items l.rules l.list) w (get_or l.uses w 0))
