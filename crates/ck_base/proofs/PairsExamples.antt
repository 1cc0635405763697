-- Closures, cycles and orders, tried where the nearest wrong reading differs.
use Rattle.std.proofs.Common.{ℕ, [], ◌∷◌, lit<, arith}
use Rattle.ck_base.specs.Pairs.{Pairs, Closure, one, more, IsFree}

-- 0 leads to 1, and 1 to 2
pub data Leads : ℕ → ℕ → Type 0 where
  first : Leads 0 1
  second : Leads 1 2

-- so 0 is joined to 2
pub in_two_steps : Closure Leads 0 2
in_two_steps = more 0 1 2 first (one 1 2 second)

-- nothing is joined to itself by no step at all
none_from_2 : (c : ℕ) → Closure Leads 2 c → ⊥
none_from_2 c (one _ _ step) = absurd (from_2 step)
  where
    from_2 : {c : ℕ} → Leads 2 c → ⊥
    from_2 step = elim step [ ]
none_from_2 c (more _ _ _ step rest) = absurd (from_2 step)
  where
    from_2 : {c : ℕ} → Leads 2 c → ⊥
    from_2 step = elim step [ ]

pub not_by_no_step : Closure Leads 2 2 → ⊥
not_by_no_step joined = none_from_2 2 joined

-- 1 is related to 0, so 0 isn't free before 1 is placed
abbrev one_before : Pairs
one_before = record { size = 2; rows = record { size = 2; words = 0 ∷ [] } ∷ record { size = 2; words = 1 ∷ [] } ∷ [] }

pub not_before_its_own : IsFree one_before [] 0 → ⊥
not_before_its_own free = let (i, within, is) = free.ready 1 (omega arith, omega arith, (lit< tt, λ none. cc)) in omega (arith, within)
