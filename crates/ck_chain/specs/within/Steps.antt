-- Steps whose tokens lie in a text.
use Rattle.std.specs.Prelude.{ℕ, ◌≤◌, List, length}
use Rattle.parse_driver.specs.declared.tokens.TokenRef.{TokenRef}
use Rattle.parse_driver.specs.declared.step.Step.{Step}
use Rattle.parse_driver.specs.declared.step.Step.TheVariants.{Shift, Reduce}

-- the token's bytes are some of the text
pub record IsTokenInside (text : List ℕ) (k : TokenRef) : Type 0 where
  pub forward : k.from ≤ k.to
  pub within : k.to ≤ length text

-- so are those of a token that is shifted
abbrev pub IsInside : List ℕ → Step → Type 0
IsInside text (Shift k) = IsTokenInside text k
IsInside text (Reduce r) = Unit {0}
