-- What is left of a source whose tokens are drawn.
use Rattle.std.specs.Prelude.{ℕ, ◌+◌, ◌^◌, ◌<◌, ◌≤◌, List, length}
use Rattle.rex_model.specs.Rules.{Rules}
use Rattle.rex_model.specs.Tables.{Tables}
use Rattle.parse_driver.specs.Stream.{Ending}
use Rattle.parse_driver.specs.declared.tokens.TokenRef.{TokenRef}
use Rattle.ck_chain.specs.Deriving.{Comes}
use Rattle.ck_chain.specs.within.Scanners.{ScansBy}

-- the source from a place in a start state on, and the tables that scan it
pub record Left : Type 0 where
  pub tables : Tables
  pub source : List ℕ
  pub state : ℕ
  pub at : ℕ

-- by rules by which the tables scan, these tokens come, with this ending
abbrev pub ComesBy : Tables → List ℕ → ℕ → ℕ → List TokenRef → Ending → Type 0
ComesBy tables source state at tokens ending =
    (rules : Rules) × ScansBy rules tables × Comes rules.list source state at tokens ending

-- the tables scan by some rules, and the state and the place are one of the tables' and one of the source
pub record CanDraw (tables : Tables) (source : List ℕ) (state at : ℕ) : Type 0 where
  pub rules : Rules
  pub scans : ScansBy rules tables
  pub small : length source + 1 < 2 ^ 32
  pub within : at ≤ length source
  pub is_state : state < length tables.starts
