-- The best text of one rule, with what stands behind it.
use Rattle.std.specs.Prelude.{◌≡◌, ℕ, ◌+◌, ◌-◌, ◌<◌, ◌≤◌, ◌⊎◌, nat_lt, IsTrue, if◌then◌else◌, List, length, take, drop, Option, Some, None}
use Rattle.rex_model.specs.Language.{Re, Language}
use Rattle.rex_model.specs.Rules.{Rule, trailing}
use Rattle.rex_model.specs.declared.pairs.Pair.{Pair}

-- the first n bytes are a word of the body and not empty, and those behind them up to m one of the context
pub record IsPair (body context : Re) (text : List ℕ) (n m : ℕ) : Type 0 where
  pub some : 0 < n
  pub fits : n ≤ m
  pub within : m ≤ length text
  pub front : Language body (take n text)
  pub behind : Language context (take (m - n) (drop n text))

-- the pair (n, m) isn't better than (k, l): its end is before that one's, or the same and its text isn't longer
abbrev pub IsAtMost : ℕ → ℕ → ℕ → ℕ → Type 0
IsAtMost n m k l = (m < l) ⊎ ((m ≡ l) × (n ≤ k))

-- the best pair whose text has at most i bytes; None where there is none
abbrev pub IsBestUpTo : Re → Re → List ℕ → ℕ → Option Pair → Type 0
IsBestUpTo body context text i None = (n m : ℕ) → n ≤ i → IsPair body context text n m → ⊥
IsBestUpTo body context text i (Some best) =
    IsPair body context text best.len best.whole × (best.len ≤ i)
    × ((n m : ℕ) → n ≤ i → IsPair body context text n m → IsAtMost n m best.len best.whole)

-- the best pair of the rule; None where there is none, or the rule isn't active
abbrev pub IsPairOfRule : Rule → ℕ → List ℕ → Option Pair → Type 0
IsPairOfRule rule state rest None =
    IsTrue (rule.active state) → (n m : ℕ) → IsPair rule.body (trailing rule.context) rest n m → ⊥
IsPairOfRule rule state rest (Some best) =
    IsTrue (rule.active state) × IsBestUpTo rule.body (trailing rule.context) rest (length rest) (Some best)

-- the better of the best pair and one whose text is longer, if something of its context follows
abbrev pub better_of : Option Pair → ℕ → Option ℕ → Option Pair
better_of best len None = best
better_of None len (Some k) = Some (record { len = len; whole = len + k })
better_of (Some best) len (Some k) =
    if nat_lt (len + k) best.whole then Some best else Some (record { len = len; whole = len + k })

-- the pair of a text behind which nothing stands
abbrev pub plain_of : Option ℕ → Option Pair
plain_of None = None
plain_of (Some n) = Some (record { len = n; whole = n })
