-- Clashes, their order, and the least of them.
use Rattle.std.specs.Prelude.{◌≡◌, ℕ, ◌<◌, ◌⊎◌, Option, Some, None}
use Rattle.cfg_model.specs.LalrConflicts.{NotAfter}
use Rattle.lalr_tables.specs.declared.clash.Clash.{Clash}

-- the first three numbers stand before the others, or are the same: the terminal counts first, then the
-- rule, then what stands beside it
abbrev pub IsBefore : ℕ → ℕ → Option ℕ → ℕ → ℕ → Option ℕ → Type 0
IsBefore t r o u s q = (t < u) ⊎ ((t ≡ u) × ((r < s) ⊎ ((r ≡ s) × NotAfter o q)))

-- the first clash is reported before the second, or they are the same
abbrev pub Precedes : Clash → Clash → Type 0
Precedes a b = IsBefore a.terminal a.rule a.other b.terminal b.rule b.other

-- the first clash of all in that order, and None where there is none
abbrev pub IsLeastClash : (Clash → Type 0) → Option Clash → Type 0
IsLeastClash C None = (c : Clash) → C c → ⊥
IsLeastClash C (Some b) = C b × ((c : Clash) → C c → Precedes b c)

-- the first of the two in the order of reports
abbrev pub IsLesser : Option Clash → Clash → Option Clash → Type 0
IsLesser None other new = new ≡ Some other
IsLesser (Some b) other new = (c : Clash) × (new ≡ Some c) × ((c ≡ b) ⊎ (c ≡ other)) × Precedes c b × Precedes c other

-- the lesser of two conflicts that may be missing
abbrev pub IsLesserOf : Option Clash → Option Clash → Option Clash → Type 0
IsLesserOf best None new = new ≡ best
IsLesserOf best (Some other) new = IsLesser best other new
