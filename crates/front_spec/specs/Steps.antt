-- What the steps of the reader of REX find. Only contracts within the crate cite these.
use Rattle.std.specs.Prelude.{◌≡◌, ℕ, ◌+◌, ◌⊎◌, true, min, List, Option}
use Rattle.ck_base.specs.BitSet.{BitSet, Has}
use Rattle.front_spec.specs.RexShapes.{Saying}
use Rattle.front_spec.specs.RexFaults.{positions_of}
use Rattle.front_spec.specs.RexRules.{active_in}

-- positions as far as they matter: whatever is above the limit is one more than it
abbrev pub counted_positions : Saying → ℕ
counted_positions said = min (positions_of said) (4096 + 1)

-- the new set has the states where a rule is active that names these, and those before
pub record AddsActive (old new : BitSet) (known : List (List ℕ)) (names : Option (List (List ℕ))) : Type 0 where
  pub size : new.size ≡ old.size
  pub only : (k : ℕ) → Has new k → Has old k ⊎ (active_in known names k ≡ true)
  pub kept : (k : ℕ) → Has old k → Has new k
  pub more : (k : ℕ) → active_in known names k ≡ true → Has new k
