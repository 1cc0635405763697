-- Rising lists of numbers, and numbers in the order in which they are met.
use Rattle.std.specs.Prelude.{ℕ, suc, ◌<◌, ◌≤◌, List, [], ◌∷◌, Contains}
use Rattle.cfg_model.specs.Cores.{FirstMet}

-- the list rises from k on
pub data Climbs : ℕ → List ℕ → Type 0 where
  ends : (k : ℕ) → Climbs k []
  climbs : (k n : ℕ) (ns : List ℕ) → k ≤ n → Climbs (suc n) ns → Climbs k (n ∷ ns)

-- the numbers met so far are those below the count, each after all lower ones
pub record Met (ns : List ℕ) (count : ℕ) : Type 0 where
  pub first : FirstMet ns
  pub each : (k : ℕ) → k < count → Contains ns k
