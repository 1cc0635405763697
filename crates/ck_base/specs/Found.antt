-- What a search finds, or that there is none.
use Rattle.std.specs.Prelude.{Option, MatchOption}

-- there is none of which P holds
abbrev pub HasNo : {X : Type 0} → (X → Type 0) → Type 0
HasNo P = (x : _) → P x → ⊥

-- what was found is seen as one of which P holds; None where there is none
abbrev pub Finds : {A X : Type 0} → (A → X) → (X → Type 0) → Option A → Type 0
Finds seen P found = MatchOption found (HasNo P) (λ a. P (seen a))
