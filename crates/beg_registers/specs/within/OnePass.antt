-- One pass over the instances of a class.
use Rattle.std.specs.Prelude.{◌≡◌, ℕ, ◌<◌, ◌&&◌, ◌||◌, ◌==◌, nat_lt, Bool, false, List, length, slice_index}
use Rattle.beg_model.specs.declared.rules.Holding.TheVariants.{Class, Operand, Nothing}
use Rattle.beg_model.specs.Items.{Item}
use Rattle.beg_model.specs.Registers.{HasClass, UsedAt, Registers, IsLeastFree}

-- whether the item holds a register of the class
abbrev pub holds_class : Item → ℕ → Bool
holds_class item class = elim item.holds [ Class c ↦ c == class | Operand ↦ false | Nothing ↦ false ]

-- whether a register that is held to before `until` is held at the place before `next`
abbrev pub busy : ℕ → ℕ → Bool → Bool
busy until next early = nat_lt next until || ((until == next) && early)

-- the place of use of each value of the class
pub record AreUses (items : List Item) (uses : List ℕ) (class : ℕ) : Type 0 where
  pub size : length uses ≡ length items
  pub used : (w : ℕ) → HasClass items w class → UsedAt items w (slice_index uses w) × (w < slice_index uses w) × (slice_index uses w < length items)
  pub once : (w u : ℕ) → HasClass items w class → UsedAt items w u → u ≡ slice_index uses w

-- with so many registers there is always one
abbrev pub IsRoomy : List Item → ℕ → ℕ → Type 0
IsRoomy items class have = (registers : Registers) (p k : ℕ) → HasClass items p class → IsLeastFree items registers class p k → k < have
